-- What is read is in the grammar: lists, and parts without expressions.
use Rattle.std.proofs.Common.{◌≡◌, ℕ, zero, suc, ◌==◌, List, [], ◌∷◌, length, true, ℤ, Option, Some, None, option_map, option_and_then, inl, inr, refl, sym, subst, ◌∙◌, arith}
use Rattle.arz_query.specs.Words.{list_of_one, Read, Reader, fine, joined, chosen, with_front, no_more, more_at, items_at}
use Rattle.arz_query.specs.Lexical.{after_byte, after_pair, is_next, skip_blanks, name_at}
use Rattle.arz_query.specs.Numbers.{index_at}
use Rattle.arz_query.specs.Grammar as g
use Rattle.arz_query.specs.Grammar.{IsBlank, IsOptional, IsStep, IsOperator, IsShorthand}
use Rattle.arz_query.specs.Reading.{bound_at, some_bound, with_blanks, no_bound, comma, shorthand_at, segment_start, comparison_at, begins_int, begins_segment, wildcard, named}
use Rattle.arz_query.specs.declared.pieces.Marks.{Marks}
use Rattle.arz_query.specs.declared.query.Selector.{Selector}
use Rattle.arz_query.specs.declared.query.Comparison.{Comparison}
use Rattle.arz_query.specs.declared.query.Comparison.TheVariants as by
use Rattle.arz_query.proofs.Inverse.{and_then, mapped, chosen_by, cond_by, byte_is, some_is, blanks_of}
use Rattle.arz_query.proofs.Tokens.{name_to}
use Rattle.arz_query.proofs.Figures.{int_to}
use Rattle.arz_query.proofs.Lists.{taken, turn, none_left, joined-fine}

-- a reader whose answers have that form
abbrev pub Sound : {V : Type 0} → Reader V → (List ℕ → List ℕ → V → Marks → Type 0) → Type 0
Sound {V} reader Is = (s : List ℕ) (one : Read V) → reader s ≡ Some one → Is s one.rest one.value one.marks

-- ---- lists

pub behind_sound : {V : Type 0} (separator : List ℕ → Option (List ℕ)) (item : Reader V) (Are : List ℕ → List ℕ → List V → Marks → Type 0) →
    ((s : List ℕ) (one : Read V) → item s ≡ Some one → Are s one.rest (one.value ∷ []) one.marks) →
    ((s t r : List ℕ) (one : Read V) (vs : List V) (n : Marks) → item s ≡ Some one → separator one.rest ≡ Some t → Are t r vs n → Are s r (one.value ∷ vs) (joined one.marks n)) →
    (m : ℕ) (s : List ℕ) (one : Read V) (all : Read (List V)) → item s ≡ Some one → more_at m separator item one.rest ≡ Some all → Are s all.rest (one.value ∷ all.value) (joined one.marks all.marks)
behind_sound {V} separator item Are last more = go
  where
    finished : (s : List ℕ) (one : Read V) (all : Read (List V)) → item s ≡ Some one → no_more one.rest ≡ all → Are s all.rest (one.value ∷ all.value) (joined one.marks all.marks)
    finished s one all it e = subst (λ (a : Read (List V)). Are s a.rest (one.value ∷ a.value) (joined one.marks a.marks)) e (subst (λ k. Are s one.rest (one.value ∷ []) k) (sym (joined-fine one.marks)) (last s one it))

    go : (m : ℕ) (s : List ℕ) (one : Read V) (all : Read (List V)) → item s ≡ Some one → more_at m separator item one.rest ≡ Some all → Are s all.rest (one.value ∷ all.value) (joined one.marks all.marks)
    go zero s one all it e = finished s one all it (some_is (sym (none_left 0 separator item one.rest refl) ∙ e))
    go (suc k) s one all it e =
        elim (chosen_by (separator one.rest) (λ t. option_and_then (taken k separator item) (item t)) (Some (no_more one.rest)) all (sym (turn (suc k) k separator item one.rest refl) ∙ e)) [
          | inl p ↦
              let q = and_then (taken k separator item) (item p.0) all p.1.1 in
              let w = mapped (with_front (q.0.value ∷ []) q.0.marks) (more_at k separator item q.0.rest) all q.1.1 in
              let inner = go k p.0 q.0 w.0 q.1.0 w.1.0 in
              subst (λ (a : Read (List V)). Are s a.rest (one.value ∷ a.value) (joined one.marks a.marks)) w.1.1
              (more s p.0 w.0.rest one (q.0.value ∷ w.0.value) (joined q.0.marks w.0.marks) it p.1.0 inner)
          | inr p ↦ finished s one all it (some_is p.1)
        ]

-- one or more
pub items_sound : {V : Type 0} (separator : List ℕ → Option (List ℕ)) (item : Reader V) (Are : List ℕ → List ℕ → List V → Marks → Type 0) →
    ((s : List ℕ) (one : Read V) → item s ≡ Some one → Are s one.rest (one.value ∷ []) one.marks) →
    ((s t r : List ℕ) (one : Read V) (vs : List V) (n : Marks) → item s ≡ Some one → separator one.rest ≡ Some t → Are t r vs n → Are s r (one.value ∷ vs) (joined one.marks n)) →
    Sound (items_at separator item) Are
unfolding items_at
items_sound {V} separator item Are last more s all e =
    let q = and_then (taken (length s) separator item) (item s) all e in
    let w = mapped (with_front (q.0.value ∷ []) q.0.marks) (more_at (length s) separator item q.0.rest) all q.1.1 in
    subst (λ (a : Read (List V)). Are s a.rest a.value a.marks) w.1.1 (behind_sound separator item Are last more (length s) s q.0 w.0 q.1.0 w.1.0)

-- none or more
pub many_sound : {V : Type 0} (separator : List ℕ → Option (List ℕ)) (item : Reader V) (Are : List ℕ → List ℕ → List V → Marks → Type 0) →
    ((s : List ℕ) → Are s s [] fine) →
    ((s t r : List ℕ) (one : Read V) (vs : List V) (n : Marks) → separator s ≡ Some t → item t ≡ Some one → Are one.rest r vs n → Are s r (one.value ∷ vs) (joined one.marks n)) →
    (m : ℕ) → Sound (more_at m separator item) Are
many_sound {V} separator item Are none more = go
  where
    finished : (s : List ℕ) (all : Read (List V)) → no_more s ≡ all → Are s all.rest all.value all.marks
    finished s all e = subst (λ (a : Read (List V)). Are s a.rest a.value a.marks) e (none s)

    go : (m : ℕ) (s : List ℕ) (all : Read (List V)) → more_at m separator item s ≡ Some all → Are s all.rest all.value all.marks
    go zero s all e = finished s all (some_is (sym (none_left 0 separator item s refl) ∙ e))
    go (suc k) s all e =
        elim (chosen_by (separator s) (λ t. option_and_then (taken k separator item) (item t)) (Some (no_more s)) all (sym (turn (suc k) k separator item s refl) ∙ e)) [
          | inl p ↦
              let q = and_then (taken k separator item) (item p.0) all p.1.1 in
              let w = mapped (with_front (q.0.value ∷ []) q.0.marks) (more_at k separator item q.0.rest) all q.1.1 in
              let inner = go k q.0.rest w.0 w.1.0 in
              subst (λ (a : Read (List V)). Are s a.rest a.value a.marks) w.1.1
              (more s p.0 w.0.rest q.0 w.0.value w.0.marks p.1.0 q.1.0 inner)
          | inr p ↦ finished s all (some_is p.1)
        ]

-- ---- marks between items

pub record Mark (b : ℕ) (s t : List ℕ) : Type 0 where
  pub behind : List ℕ
  pub front : IsBlank s (b ∷ behind)
  pub back : IsBlank behind t

pub record Pair (b : ℕ) (s t : List ℕ) : Type 0 where
  pub behind : List ℕ
  pub front : IsBlank s (b ∷ b ∷ behind)
  pub back : IsBlank behind t

pub byte_behind : (b : ℕ) (s t : List ℕ) → after_byte b (skip_blanks s) ≡ Some t → IsBlank s (b ∷ t)
byte_behind b s t e = subst (λ x. IsBlank s x) (byte_is b (skip_blanks s) t e) (blanks_of s)

pub comma_is : (s t : List ℕ) → comma s ≡ Some t → Mark 44 s t
unfolding comma
comma_is s t e =
    let p = mapped skip_blanks (after_byte 44 (skip_blanks s)) t e in
    record { behind = p.0; front = byte_behind 44 s p.0 p.1.0; back = subst (λ x. IsBlank p.0 x) p.1.1 (blanks_of p.0) }

pub pair_is : (b : ℕ) (s t : List ℕ) → after_pair b s ≡ Some t → Pair b s t
pair_is b s t e =
    let p = mapped skip_blanks (option_and_then (after_byte b) (after_byte b (skip_blanks s))) t e in
    let q = and_then (after_byte b) (after_byte b (skip_blanks s)) p.0 p.1.0 in
    record { behind = p.0; front = subst (λ x. IsBlank s (b ∷ x)) (byte_is b q.0 p.0 q.1.1) (byte_behind b s q.0 q.1.0); back = subst (λ x. IsBlank p.0 x) p.1.1 (blanks_of p.0) }

pub start_is : (s t : List ℕ) → segment_start s ≡ Some t → IsBlank s t
unfolding segment_start
start_is s t e =
    elim (cond_by (is_next begins_segment (skip_blanks s)) (Some (skip_blanks s)) None t e) [
      | inl p ↦ subst (λ x. IsBlank s x) (some_is p.1) (blanks_of s)
      | inr p ↦ let absurd_some : None ≡ Some t = p.1 in cc
    ]

-- ---- slices and short segments

pub bound_sound : Sound bound_at IsOptional
unfolding bound_at
bound_sound s one e =
    elim (cond_by (is_next begins_int s) (option_map (λ o. with_blanks (some_bound o)) (index_at s)) (Some (no_bound s)) one e) [
      | inl p ↦
          let q = mapped (λ o. with_blanks (some_bound o)) (index_at s) one p.1 in
          subst (λ (o : Read (Option ℤ)). IsOptional s o.rest o.value o.marks) q.1.1 (g.int (int_to s q.0 q.1.0) (blanks_of q.0.rest))
      | inr p ↦ subst (λ (o : Read (Option ℤ)). IsOptional s o.rest o.value o.marks) (some_is p.1) g.no_int
    ]

pub shorthand_sound : Sound shorthand_at IsShorthand
unfolding shorthand_at
shorthand_sound s one e =
    elim (chosen_by (after_byte 42 s) (λ t. Some (list_of_one (wildcard t))) (option_map (λ n. list_of_one (named n)) (name_at s)) one e) [
      | inl p ↦
          subst (λ x. IsShorthand x one.rest one.value one.marks) (sym (byte_is 42 s p.0 p.1.0))
          (subst (λ (o : Read (List Selector)). IsShorthand (42 ∷ p.0) o.rest o.value o.marks) (some_is p.1.1) g.wildcard)
      | inr p ↦
          let q = mapped (λ n. list_of_one (named n)) (name_at s) one p.1 in
          subst (λ (o : Read (List Selector)). IsShorthand s o.rest o.value o.marks) q.1.1 (g.shorthand (name_to s q.0.1 q.0.0 q.1.0))
    ]

pub is_byte : (x b : ℕ) → (x == b) ≡ true → x ≡ b
is_byte x b h = grind (arith, h)

-- a first byte, and what follows it
pub at_byte : (Is : List ℕ → Type 0) (x b : ℕ) (xs : List ℕ) → (x == b) ≡ true → Is (b ∷ xs) → Is (x ∷ xs)
at_byte Is x b xs h is = subst (λ y. Is (y ∷ xs)) (sym (is_byte x b h)) is

pub at_rest : (Is : List ℕ → Type 0) (b : ℕ) (s t : List ℕ) → after_byte b s ≡ Some t → Is (b ∷ t) → Is s
at_rest Is b s t e is = subst Is (sym (byte_is b s t e)) is

abbrev pub Op : List ℕ → Comparison × List ℕ → Type 0
Op s c = IsOperator s c.1 c.0

pub comparison_sound : (s : List ℕ) (c : Comparison × List ℕ) → comparison_at s ≡ Some c → IsOperator s c.1 c.0
unfolding comparison_at
comparison_sound [] c e = cc
comparison_sound (x ∷ xs) c e =
    elim (cond_by (x == 61) (option_map (λ t. (by.Equal, t)) (after_byte 61 xs)) _ c e) [
      | inl p ↦
          let q = mapped (λ t. (by.Equal, t)) (after_byte 61 xs) c p.1 in
          at_byte (λ y. Op y c) x 61 xs p.0 (at_rest (λ y. Op (61 ∷ y) c) 61 xs q.0 q.1.0 (subst (λ o. Op (61 ∷ 61 ∷ q.0) o) q.1.1 g.equal))
      | inr n ↦ elim (cond_by (x == 33) (option_map (λ t. (by.Unequal, t)) (after_byte 61 xs)) _ c n.1) [
        | inl p ↦
            let q = mapped (λ t. (by.Unequal, t)) (after_byte 61 xs) c p.1 in
            at_byte (λ y. Op y c) x 33 xs p.0 (at_rest (λ y. Op (33 ∷ y) c) 61 xs q.0 q.1.0 (subst (λ o. Op (33 ∷ 61 ∷ q.0) o) q.1.1 g.unequal))
        | inr n ↦ elim (cond_by (x == 60) (chosen (after_byte 61 xs) (λ t. Some (by.LessOrEqual, t)) (Some (by.Less, xs))) _ c n.1) [
          | inl p ↦ at_byte (λ y. Op y c) x 60 xs p.0 (elim (chosen_by (after_byte 61 xs) (λ t. Some (by.LessOrEqual, t)) (Some (by.Less, xs)) c p.1) [
            | inl q ↦ at_rest (λ y. Op (60 ∷ y) c) 61 xs q.0 q.1.0 (subst (λ o. Op (60 ∷ 61 ∷ q.0) o) (some_is q.1.1) g.less_or_equal)
            | inr q ↦ subst (λ o. Op (60 ∷ xs) o) (some_is q.1) g.less
          ])
          | inr n ↦ elim (cond_by (x == 62) (chosen (after_byte 61 xs) (λ t. Some (by.GreaterOrEqual, t)) (Some (by.Greater, xs))) None c n.1) [
            | inl p ↦ at_byte (λ y. Op y c) x 62 xs p.0 (elim (chosen_by (after_byte 61 xs) (λ t. Some (by.GreaterOrEqual, t)) (Some (by.Greater, xs)) c p.1) [
              | inl q ↦ at_rest (λ y. Op (62 ∷ y) c) 61 xs q.0 q.1.0 (subst (λ o. Op (62 ∷ 61 ∷ q.0) o) (some_is q.1.1) g.greater_or_equal)
              | inr q ↦ subst (λ o. Op (62 ∷ xs) o) (some_is q.1) g.greater
            ])
            | inr n ↦ let absurd_some : let o : Option (Comparison × List ℕ) = None in o ≡ Some c = n.1 in cc
          ]
        ]
      ]
    ]
