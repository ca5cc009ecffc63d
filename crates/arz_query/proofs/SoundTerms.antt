-- What is read is in the grammar: expressions and whole queries.
use Rattle.std.proofs.Common.{◌≡◌, ℕ, zero, suc, ◌==◌, ◌||◌, List, [], ◌∷◌, length, true, false, cond, Option, Some, None, option_map, option_and_then, inl, inr, refl, sym, ap, subst, ◌∙◌, codes}
use Rattle.std.specs.Char.{is_ascii_lowercase}
use Rattle.std.specs.Str.{bytes_eq}
use Rattle.std.proofs.lemmas.Slice.Eq.{bytes_eq-Decides}
use Rattle.arz_query.specs.Words.{Read, Reader, joined, chosen, with_value, with_rest, with_front, no_more, more_at, items_at}
use Rattle.arz_query.specs.Lexical.{after_byte, after_pair, is_next, cut, skip_blanks, quoted_at}
use Rattle.arz_query.specs.Numbers.{literal_at, is_empty}
use Rattle.arz_query.specs.Typing.{as_test, tested_as, test_of}
use Rattle.arz_query.specs.Grammar as g
use Rattle.arz_query.specs.Grammar.{IsBlank, AreSegments, IsExpr, AreAlls, IsAll, AreItems, IsItem, IsGroup, IsTerm, AreArguments, AreExprs, IsQuery, are_several}
use Rattle.arz_query.specs.Reading.{tested, comma, segments_of, literal, nodes, keyword_of, closed, arguments_of, called, word_of, term_of, comparison_at, compared, other_of, compared_with, compared_of, group_of, negated, negated_of, item_of, chain_all, chained, all_of, any_of, expr_at, whole, reading}
use Rattle.arz_query.specs.declared.words.Class.TheVariants as class
use Rattle.arz_query.specs.declared.pieces.Marks.{Marks}
use Rattle.arz_query.specs.declared.terms.Term.{Term}
use Rattle.arz_query.specs.declared.terms.Term.TheVariants as term
use Rattle.arz_query.specs.declared.query.Segment.{Segment}
use Rattle.arz_query.specs.declared.query.Operand.TheVariants as operand
use Rattle.arz_query.specs.declared.query.Test.{Test}
use Rattle.arz_query.specs.declared.query.Test.TheVariants.{Any, All}
use Rattle.arz_query.specs.declared.query.Start.TheVariants.{Root, Current}
use Rattle.arz_query.proofs.Inverse.{and_then, mapped, chosen_by, cond_by, byte_is, some_is, blanks_of}
use Rattle.arz_query.proofs.Lists.{taken, turned, turn}
use Rattle.arz_query.proofs.Tokens.{string_to, word_to}
use Rattle.arz_query.proofs.Figures.{number_to}
use Rattle.arz_query.proofs.SoundParts.{Sound, items_sound, behind_sound, comma_is, pair_is, byte_behind, at_byte, at_rest, comparison_sound}
use Rattle.arz_query.proofs.Sound.{tested_is, by_quote, segments_sound}

-- ---- calls and words

arguments_sound : (below : Reader Term) → Sound below IsExpr → Sound (arguments_of below) AreArguments
unfolding arguments_of
arguments_sound below h s one e =
    elim (chosen_by (after_byte 41 (skip_blanks s)) (λ t. Some (no_more t)) (option_and_then closed (items_at comma below (skip_blanks s))) one e) [
      | inl p ↦ subst (λ (o : Read (List Term)). AreArguments s o.rest o.value o.marks) (some_is p.1.1) (g.no_argument (byte_behind 41 s p.0 p.1.0))
      | inr p ↦
          let q = and_then closed (items_at comma below (skip_blanks s)) one p.1 in
          let c = mapped (with_rest q.0) (after_byte 41 (skip_blanks q.0.rest)) one q.1.1 in
          let exprs : AreExprs (skip_blanks s) q.0.rest q.0.value q.0.marks =
          items_sound comma below AreExprs
          (λ s one e. g.last_expr (h s one e))
          (λ s t r one vs n e c are. let k = comma_is one.rest t c in g.more_exprs (h s one e) k.front k.back are)
          (skip_blanks s) q.0 q.1.0 in
          subst (λ (o : Read (List Term)). AreArguments s o.rest o.value o.marks) c.1.1 (g.arguments (blanks_of s) exprs (byte_behind 41 q.0.rest c.0 c.1.0))
    ]

abbrev Spelled : List ℕ → Read Term → Type 0
Spelled s o = IsTerm s o.rest o.value o.marks

text_is : (a b : List ℕ) → bytes_eq a b ≡ true → a ≡ b
text_is a b h = (bytes_eq-Decides a b).0 h

keyword_sound : (s r word : List ℕ) → is_next is_ascii_lowercase s ≡ true → cut class.Function s ≡ (word, r) → (one : Read Term) → keyword_of word r ≡ Some one → Spelled s one
unfolding keyword_of
keyword_sound s r word low c one e =
    elim (cond_by (bytes_eq word (codes "true")) (Some (literal (operand.Flag true) r)) _ one e) [
      | inl p ↦ subst (λ o. Spelled s o) (some_is p.1) (g.true_word (word_to s r (codes "true") low (c ∙ ap (λ (w : List ℕ). (w, r)) (text_is word (codes "true") p.0))))
      | inr n ↦ elim (cond_by (bytes_eq word (codes "false")) (Some (literal (operand.Flag false) r)) _ one n.1) [
        | inl p ↦ subst (λ o. Spelled s o) (some_is p.1) (g.false_word (word_to s r (codes "false") low (c ∙ ap (λ (w : List ℕ). (w, r)) (text_is word (codes "false") p.0))))
        | inr n ↦ elim (cond_by (bytes_eq word (codes "null")) (Some (literal operand.Null r)) None one n.1) [
          | inl p ↦ subst (λ o. Spelled s o) (some_is p.1) (g.null_word (word_to s r (codes "null") low (c ∙ ap (λ (w : List ℕ). (w, r)) (text_is word (codes "null") p.0))))
          | inr n ↦ let none : let o : Option (Read Term) = None in o ≡ Some one = n.1 in cc
        ]
      ]
    ]

word_sound : (below : Reader Term) → Sound below IsExpr → (s : List ℕ) (one : Read Term) → is_next is_ascii_lowercase s ≡ true → word_of below s ≡ Some one → Spelled s one
unfolding word_of
word_sound below h s one low e =
    elim (chosen_by (after_byte 40 (cut class.Function s).1) (λ t. option_map (called (length s) (cut class.Function s).0) (arguments_of below t)) (keyword_of (cut class.Function s).0 (cut class.Function s).1) one e) [
      | inl p ↦
          let q = mapped (called (length s) (cut class.Function s).0) (arguments_of below p.0) one p.1.1 in
          subst (λ o. Spelled s o) q.1.1
          (g.function (word_to s (40 ∷ p.0) (cut class.Function s).0 low (ap (λ (r : List ℕ). ((cut class.Function s).0, r)) (byte_is 40 (cut class.Function s).1 p.0 p.1.0))) (arguments_sound below h p.0 q.0 q.1.0))
      | inr p ↦ keyword_sound s (cut class.Function s).1 (cut class.Function s).0 low refl one p.1
    ]

term_sound : (below : Reader Term) → Sound below IsExpr → Sound (term_of below) IsTerm
unfolding term_of
term_sound below h [] one e = cc
term_sound below h (x ∷ xs) one e =
    elim (cond_by (x == 36) (option_map (nodes Root) (segments_of below xs)) _ one e) [
      | inl p ↦
          let q = mapped (nodes Root) (segments_of below xs) one p.1 in
          at_byte (λ y. Spelled y one) x 36 xs p.0 (subst (λ o. Spelled (36 ∷ xs) o) q.1.1 (g.from_root (segments_sound below h xs q.0 q.1.0)))
      | inr n ↦ elim (cond_by (x == 64) (option_map (nodes Current) (segments_of below xs)) _ one n.1) [
        | inl p ↦
            let q = mapped (nodes Current) (segments_of below xs) one p.1 in
            at_byte (λ y. Spelled y one) x 64 xs p.0 (subst (λ o. Spelled (64 ∷ xs) o) q.1.1 (g.from_current (segments_sound below h xs q.0 q.1.0)))
        | inr n ↦ elim (cond_by (x == 39 || x == 34) (option_map (λ t. literal (operand.Text t.0) t.1) (quoted_at x xs)) _ one n.1) [
          | inl p ↦
              let q = mapped (λ t. literal (operand.Text t.0) t.1) (quoted_at x xs) one p.1 in
              subst (λ o. Spelled (x ∷ xs) o) q.1.1
              (by_quote (λ y. quoted_at y xs ≡ Some q.0 → Spelled (y ∷ xs) (literal (operand.Text q.0.0) q.0.1)) x p.0 (λ k. g.single_text (string_to 39 xs q.0.1 q.0.0 k)) (λ k. g.double_text (string_to 34 xs q.0.1 q.0.0 k)) q.1.0)
          | inr n ↦ elim (cond_by (is_ascii_lowercase x) (word_of below (x ∷ xs)) (option_map (with_value (λ n. term.Literal (operand.Int n))) (literal_at (x ∷ xs))) one n.1) [
            | inl p ↦ word_sound below h (x ∷ xs) one p.0 p.1
            | inr p ↦
                let q = mapped (with_value (λ n. term.Literal (operand.Int n))) (literal_at (x ∷ xs)) one p.1 in
                subst (λ o. Spelled (x ∷ xs) o) q.1.1 (g.number (number_to (x ∷ xs) q.0 q.1.0))
          ]
        ]
      ]
    ]

-- ---- basic expressions

abbrev Basic : List ℕ → Read Term → Type 0
Basic s o = IsItem s o.rest o.value o.marks

compared_sound : (below : Reader Term) → Sound below IsExpr → Sound (compared_of below) IsItem
unfolding compared_of
compared_sound below h s one e =
    let q = and_then (compared_with below (length s)) (term_of below s) one e in
    elim (chosen_by (comparison_at (skip_blanks q.0.rest)) (other_of below (length s) q.0) (Some q.0) one q.1.1) [
      | inl p ↦
          let o = mapped (compared (length s) q.0 p.0.0 (length (skip_blanks p.0.1))) (term_of below (skip_blanks p.0.1)) one p.1.1 in
          subst (λ o. Basic s o) o.1.1
          (g.comparison (term_sound below h s q.0 q.1.0) (blanks_of q.0.rest) (comparison_sound (skip_blanks q.0.rest) p.0 p.1.0) (blanks_of p.0.1)
          (term_sound below h (skip_blanks p.0.1) o.0 o.1.0))
      | inr p ↦ subst (λ o. Basic s o) (some_is p.1) (g.alone (term_sound below h s q.0 q.1.0))
    ]

group_sound : (below : Reader Term) → Sound below IsExpr → Sound (group_of below) IsGroup
unfolding group_of
group_sound below h s one e =
    let q = and_then closed (tested below (skip_blanks s)) one e in
    let c = mapped (with_rest q.0) (after_byte 41 (skip_blanks q.0.rest)) one q.1.1 in
    let t = tested_is below (skip_blanks s) q.0 q.1.0 in
    subst (λ (o : Read Test). IsGroup s o.rest o.value o.marks) c.1.1
    (subst (λ (o : Read Test). after_byte 41 (skip_blanks o.rest) ≡ Some c.0 → IsGroup s c.0 o.value o.marks) t.made
    (λ k. g.parentheses (blanks_of s) (h (skip_blanks s) t.term t.read) t.is (byte_behind 41 t.term.rest c.0 k)) c.1.0)

item_sound : (below : Reader Term) → Sound below IsExpr → Sound (item_of below) IsItem
unfolding item_of negated_of
item_sound below h [] one e = cc
item_sound below h (x ∷ xs) one e =
    elim (cond_by (x == 33) (option_map negated (chosen (after_byte 40 (skip_blanks xs)) (group_of below) (tested (term_of below) (skip_blanks xs)))) _ one e) [
      | inl p ↦
          let k = mapped negated (chosen (after_byte 40 (skip_blanks xs)) (group_of below) (tested (term_of below) (skip_blanks xs))) one p.1 in
          at_byte (λ y. Basic y one) x 33 xs p.0 (subst (λ o. Basic (33 ∷ xs) o) k.1.1
          (elim (chosen_by (after_byte 40 (skip_blanks xs)) (group_of below) (tested (term_of below) (skip_blanks xs)) k.0 k.1.0) [
            | inl w ↦ g.not_group (byte_behind 40 xs w.0 w.1.0) (group_sound below h w.0 k.0 w.1.1)
            | inr w ↦
                let t = tested_is (term_of below) (skip_blanks xs) k.0 w.1 in
                subst (λ o. Basic (33 ∷ xs) (negated o)) t.made (g.not_alone (blanks_of xs) (term_sound below h (skip_blanks xs) t.term t.read) t.is)
          ]))
      | inr n ↦ elim (cond_by (x == 40) (option_map (with_value term.Logical) (group_of below xs)) (compared_of below (x ∷ xs)) one n.1) [
        | inl p ↦
            let k = mapped (with_value term.Logical) (group_of below xs) one p.1 in
            at_byte (λ y. Basic y one) x 40 xs p.0 (subst (λ o. Basic (40 ∷ xs) o) k.1.1 (g.group (group_sound below h xs k.0 k.1.0)))
        | inr p ↦ compared_sound below h (x ∷ xs) one p.1
      ]
    ]

-- ---- chains

-- where there is a mark and room, there is one more
several : {V : Type 0} (separator : List ℕ → Option (List ℕ)) (item : Reader V) (m : ℕ) (s t : List ℕ) (all : Read (List V)) → separator s ≡ Some t → more_at (suc m) separator item s ≡ Some all →
    (v : V) × ((vs : List V) × (all.value ≡ v ∷ vs))
several {V} separator item m s t all c e =
    let q = and_then (taken m separator item) (item t) all (ap (turned m separator item s) (sym c) ∙ sym (turn (suc m) m separator item s refl) ∙ e) in
    let w = mapped (with_front (q.0.value ∷ []) q.0.marks) (more_at m separator item q.0.rest) all q.1.1 in
    (q.0.value, (w.0.value, sym (ap (λ (a : Read (List V)). a.value) w.1.1)))

-- what a chain of several gives
record Chain (mark : ℕ) (make : List Test → Test) (item : Reader Term) (Are : List ℕ → List ℕ → List Test → Marks → Type 0) (s : List ℕ) (one : Read Term) : Type 0 where
  pub tests : List Test
  pub are : Are s one.rest tests one.marks
  pub more : are_several tests ≡ true
  pub value : one.value ≡ term.Logical (make tests)

chain_sound : (mark : ℕ) (make : List Test → Test) (item : Reader Term) (Are : List ℕ → List ℕ → List Test → Marks → Type 0) → item [] ≡ None →
    ((s : List ℕ) (one : Read Test) → tested item s ≡ Some one → Are s one.rest (one.value ∷ []) one.marks) →
    ((s t r : List ℕ) (one : Read Test) (vs : List Test) (n : Marks) → tested item s ≡ Some one → after_pair mark one.rest ≡ Some t → Are t r vs n → Are s r (one.value ∷ vs) (joined one.marks n)) →
    (s t : List ℕ) (one q : Read Term) → item s ≡ Some q → after_pair mark q.rest ≡ Some t → option_and_then (chain_all mark make item s) (as_test (length s) q) ≡ Some one →
    Chain mark make item Are s one
unfolding tested
chain_sound mark make item Are empty last more [] t one q read c e = let none : let o : Option (Read Term) = None in o ≡ Some q = sym empty ∙ read in cc
chain_sound mark make item Are empty last more (x ∷ xs) t one q read c e =
    let f = and_then (chain_all mark make item (x ∷ xs)) (as_test (length (x ∷ xs)) q) one e in
    let w = mapped (tested_as (length (x ∷ xs)) q) (test_of q.value) f.0 f.1.0 in
    let m = mapped (λ (a : Read (List Test)). with_value (λ ts. term.Logical (make ts)) (with_front (f.0.value ∷ []) f.0.marks a)) (more_at (length (x ∷ xs)) (after_pair mark) (tested item) f.0.rest) one f.1.1 in
    let first : tested item (x ∷ xs) ≡ Some f.0 = ap (option_and_then (as_test (length (x ∷ xs)))) read ∙ f.1.0 in
    let there : after_pair mark f.0.rest ≡ Some t = ap (λ (o : Read Test). after_pair mark o.rest) (sym w.1.1) ∙ c in
    let others = several (after_pair mark) (tested item) (length xs) f.0.rest t m.0 there m.1.0 in
    let are = behind_sound (after_pair mark) (tested item) Are last more (length (x ∷ xs)) (x ∷ xs) f.0 m.0 first m.1.0 in
    record {
      tests = f.0.value ∷ m.0.value;
      are = subst (λ (o : Read Term). Are (x ∷ xs) o.rest (f.0.value ∷ m.0.value) o.marks) m.1.1 are;
      more = ap (λ vs. are_several (f.0.value ∷ vs)) others.1.1;
      value = sym (ap (λ (o : Read Term). o.value) m.1.1);
    }

no_item : (below : Reader Term) → item_of below [] ≡ None
unfolding item_of
no_item below = refl

no_all : (below : Reader Term) → all_of below [] ≡ None
unfolding all_of item_of
no_all below = refl

all_sound : (below : Reader Term) → Sound below IsExpr → Sound (all_of below) IsAll
unfolding all_of
all_sound below h s one e = go s e
  where
    last : (s : List ℕ) (one : Read Test) → tested (item_of below) s ≡ Some one → AreItems s one.rest (one.value ∷ []) one.marks
    last s one e = let t = tested_is (item_of below) s one e in subst (λ (o : Read Test). AreItems s o.rest (o.value ∷ []) o.marks) t.made (g.last_item (item_sound below h s t.term t.read) t.is)

    more : (s t r : List ℕ) (one : Read Test) (vs : List Test) (n : Marks) → tested (item_of below) s ≡ Some one → after_pair 38 one.rest ≡ Some t → AreItems t r vs n → AreItems s r (one.value ∷ vs) (joined one.marks n)
    more s u r one vs n e c are =
        let t = tested_is (item_of below) s one e in
        subst (λ (o : Read Test). after_pair 38 o.rest ≡ Some u → AreItems s r (o.value ∷ vs) (joined o.marks n)) t.made
        (λ c. let k = pair_is 38 t.term.rest u c in g.more_items (item_sound below h s t.term t.read) t.is k.front k.back are) c

    go : (s : List ℕ) → option_and_then (chained 38 All (item_of below) s) (item_of below s) ≡ Some one → IsAll s one.rest one.value one.marks
    go s e =
        let q = and_then (chained 38 All (item_of below) s) (item_of below s) one e in
        elim (chosen_by (after_pair 38 q.0.rest) (λ t. option_and_then (chain_all 38 All (item_of below) s) (as_test (length s) q.0)) (Some q.0) one q.1.1) [
          | inl p ↦
              let k = chain_sound 38 All (item_of below) AreItems (no_item below) last more s p.0 one q.0 q.1.0 p.1.0 p.1.1 in
              subst (λ v. IsAll s one.rest v one.marks) (sym k.value) (g.all k.are k.more)
          | inr p ↦ subst (λ (o : Read Term). IsAll s o.rest o.value o.marks) (some_is p.1) (g.one_item (item_sound below h s q.0 q.1.0))
        ]

any_sound : (below : Reader Term) → Sound below IsExpr → Sound (any_of below) IsExpr
unfolding any_of
any_sound below h s one e = go s e
  where
    last : (s : List ℕ) (one : Read Test) → tested (all_of below) s ≡ Some one → AreAlls s one.rest (one.value ∷ []) one.marks
    last s one e = let t = tested_is (all_of below) s one e in subst (λ (o : Read Test). AreAlls s o.rest (o.value ∷ []) o.marks) t.made (g.last_all (all_sound below h s t.term t.read) t.is)

    more : (s t r : List ℕ) (one : Read Test) (vs : List Test) (n : Marks) → tested (all_of below) s ≡ Some one → after_pair 124 one.rest ≡ Some t → AreAlls t r vs n → AreAlls s r (one.value ∷ vs) (joined one.marks n)
    more s u r one vs n e c are =
        let t = tested_is (all_of below) s one e in
        subst (λ (o : Read Test). after_pair 124 o.rest ≡ Some u → AreAlls s r (o.value ∷ vs) (joined o.marks n)) t.made
        (λ c. let k = pair_is 124 t.term.rest u c in g.more_alls (all_sound below h s t.term t.read) t.is k.front k.back are) c

    go : (s : List ℕ) → option_and_then (chained 124 Any (all_of below) s) (all_of below s) ≡ Some one → IsExpr s one.rest one.value one.marks
    go s e =
        let q = and_then (chained 124 Any (all_of below) s) (all_of below s) one e in
        elim (chosen_by (after_pair 124 q.0.rest) (λ t. option_and_then (chain_all 124 Any (all_of below) s) (as_test (length s) q.0)) (Some q.0) one q.1.1) [
          | inl p ↦
              let k = chain_sound 124 Any (all_of below) AreAlls (no_all below) last more s p.0 one q.0 q.1.0 p.1.0 p.1.1 in
              subst (λ v. IsExpr s one.rest v one.marks) (sym k.value) (g.any k.are k.more)
          | inr p ↦ subst (λ (o : Read Term). IsExpr s o.rest o.value o.marks) (some_is p.1) (g.one_all (all_sound below h s q.0 q.1.0))
        ]

-- ---- whole queries

expr_sound : (n : ℕ) → Sound (expr_at n) IsExpr
unfolding expr_at
expr_sound zero s one e = cc
expr_sound (suc n) s one e = any_sound (expr_at n) (expr_sound n) s one e

nothing_left : (all : Read (List Segment)) (o : Read (List Segment)) → whole o ≡ Some all → (o ≡ all) × (o.rest ≡ [])
nothing_left all o e = go o.rest refl
  where
    go : (r : List ℕ) → o.rest ≡ r → (o ≡ all) × (o.rest ≡ [])
    go [] k = (some_is (ap (λ r. cond (is_empty r) (Some o) None) (sym k) ∙ e), k)
    go (x ∷ xs) k = let none : let n : Option (Read (List Segment)) = None in n ≡ Some all = ap (λ r. cond (is_empty r) (Some o) None) (sym k) ∙ e in absurd cc

pub reading_sound : (s : List ℕ) (all : Read (List Segment)) → reading s ≡ Some all → IsQuery s all.value all.marks
unfolding reading
reading_sound s all e =
    let q = and_then whole (option_and_then (segments_of (expr_at (length s))) (after_byte 36 s)) all e in
    let p = and_then (segments_of (expr_at (length s))) (after_byte 36 s) q.0 q.1.0 in
    let w = nothing_left all q.0 q.1.1 in
    let are : AreSegments p.0 q.0.rest q.0.value q.0.marks = segments_sound (expr_at (length s)) (expr_sound (length s)) p.0 q.0 p.1.1 in
    let whole_text : AreSegments p.0 [] q.0.value q.0.marks = subst (λ r. AreSegments p.0 r q.0.value q.0.marks) w.1 are in
    at_rest (λ y. IsQuery y all.value all.marks) 36 s p.0 p.1.0
    (subst (λ (o : Read (List Segment)). IsQuery (36 ∷ p.0) o.value o.marks) w.0 (g.query whole_text))
