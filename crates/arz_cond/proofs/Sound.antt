-- What is read is in the grammar.
use Rattle.std.proofs.Common.{◌≡◌, ℕ, zero, suc, ◌==◌, List, [], ◌∷◌, length, Bool, true, false, cond, ℤ, Option, Some, None, option_map, option_and_then, inl, inr, refl, sym, ap, subst, ◌∙◌, codes, IsUtf8}
use Rattle.std.specs.Char.{is_ascii_lowercase}
use Rattle.std.specs.Str.{bytes_eq, is_utf8}
use Rattle.std.proofs.lemmas.Bool.{cases_Bool}
use Rattle.std.proofs.lemmas.Str.{IsUtf8-from_is_utf8}
use Rattle.std.proofs.lemmas.Slice.Eq.{bytes_eq-Decides}
use Rattle.arz_query.specs.Words.{chosen, Read as Number}
use Rattle.arz_query.specs.Lexical.{after_byte, is_next, text_in, texted}
use Rattle.arz_query.specs.Numbers.{literal_at}
use Rattle.arz_query.specs.Grammar.{IsNumber}
use Rattle.arz_query.specs.declared.pieces.Flaw.{Flaw}
use Rattle.arz_query.specs.declared.pieces.FlawKind.{FlawKind}
use Rattle.arz_query.specs.declared.pieces.FlawKind.TheVariants as flaw
use Rattle.arz_query.proofs.Inverse.{and_then, mapped, chosen_by, cond_by, byte_is, some_is}
use Rattle.arz_query.proofs.Tokens.{not_next}
use Rattle.arz_query.proofs.Figures.{number_to}
use Rattle.arz_query.proofs.SoundParts.{is_byte, at_byte, at_rest}
use Rattle.arz_expr.specs.Grammar.{Reads, is_pointer_byte}
use Rattle.arz_expr.specs.Reading.{reading as expression_of}
use Rattle.arz_expr.specs.declared.syntax.Expr.{Expr}
use Rattle.arz_expr.proofs.Options.{from_some}
use Rattle.arz_expr.proofs.Endings.{reading-sound}
use Rattle.arz_cond.specs.Words.{Read, Reader, with_value, with_rest, with_front, no_more, more_at, items_at}
use Rattle.arz_cond.specs.Grammar as g
use Rattle.arz_cond.specs.Grammar.{run, without_blanks, one_or, AreCharacters, IsLiteral, IsOperator, IsOr, AreAnds, IsAnd, AreComparisons, IsComparison, IsNot, IsCondition}
use Rattle.arz_cond.specs.Reading.{after_pair, found, expression_at, keyword_of, keyword_at, fraction_as, number_as, number_of, number_at, character_at, with_byte, ended, quoted_within, quoted_at, text_at, literal, plain_at, operator_at, compared, other_of, compared_with, comparison_of, and_of, or_of, closed, negated, not_of, not_at, is_empty, whole, reading}
use Rattle.arz_cond.specs.declared.term.Term.{Term}
use Rattle.arz_cond.specs.declared.term.Term.TheVariants as term
use Rattle.arz_cond.specs.declared.term.Literal.{Literal}
use Rattle.arz_cond.specs.declared.term.Literal.TheVariants as lit
use Rattle.arz_cond.specs.declared.term.Comparison.{Comparison}
use Rattle.arz_cond.specs.declared.term.Comparison.TheVariants as by
use Rattle.arz_cond.proofs.Lists.{taken, turn, none_left}

-- a reader whose answers have that form
abbrev pub Sound : {V : Type 0} → Reader V → (List ℕ → List ℕ → V → Type 0) → Type 0
Sound {V} reader Is = (s : List ℕ) (one : Read V) → reader s ≡ Some one → Is s one.rest one.value

-- ---- lists

behind_sound : {V : Type 0} (separator : List ℕ → Option (List ℕ)) (item : Reader V) (Are : List ℕ → List ℕ → List V → Type 0) →
    ((s : List ℕ) (one : Read V) → item s ≡ Some one → Are s one.rest (one.value ∷ [])) →
    ((s t r : List ℕ) (one : Read V) (vs : List V) → item s ≡ Some one → separator one.rest ≡ Some t → Are t r vs → Are s r (one.value ∷ vs)) →
    (m : ℕ) (s : List ℕ) (one : Read V) (all : Read (List V)) → item s ≡ Some one → more_at m separator item one.rest ≡ Some all → Are s all.rest (one.value ∷ all.value)
behind_sound {V} separator item Are last more = go
  where
    finished : (s : List ℕ) (one : Read V) (all : Read (List V)) → item s ≡ Some one → no_more one.rest ≡ all → Are s all.rest (one.value ∷ all.value)
    finished s one all it e = subst (λ (a : Read (List V)). Are s a.rest (one.value ∷ a.value)) e (last s one it)

    go : (m : ℕ) (s : List ℕ) (one : Read V) (all : Read (List V)) → item s ≡ Some one → more_at m separator item one.rest ≡ Some all → Are s all.rest (one.value ∷ all.value)
    go zero s one all it e = finished s one all it (some_is (sym (none_left 0 separator item one.rest refl) ∙ e))
    go (suc k) s one all it e =
        elim (chosen_by (separator one.rest) (λ t. option_and_then (taken k separator item) (item t)) (Some (no_more one.rest)) all (sym (turn (suc k) k separator item one.rest refl) ∙ e)) [
          | inl p ↦
              let q = and_then (taken k separator item) (item p.0) all p.1.1 in
              let w = mapped (with_front (q.0.value ∷ [])) (more_at k separator item q.0.rest) all q.1.1 in
              let inner = go k p.0 q.0 w.0 q.1.0 w.1.0 in
              subst (λ (a : Read (List V)). Are s a.rest (one.value ∷ a.value)) w.1.1
              (more s p.0 w.0.rest one (q.0.value ∷ w.0.value) it p.1.0 inner)
          | inr p ↦ finished s one all it (some_is p.1)
        ]

-- one or more
items_sound : {V : Type 0} (separator : List ℕ → Option (List ℕ)) (item : Reader V) (Are : List ℕ → List ℕ → List V → Type 0) →
    ((s : List ℕ) (one : Read V) → item s ≡ Some one → Are s one.rest (one.value ∷ [])) →
    ((s t r : List ℕ) (one : Read V) (vs : List V) → item s ≡ Some one → separator one.rest ≡ Some t → Are t r vs → Are s r (one.value ∷ vs)) →
    Sound (items_at separator item) Are
unfolding items_at
items_sound {V} separator item Are last more s all e =
    let q = and_then (taken (length s) separator item) (item s) all e in
    let w = mapped (with_front (q.0.value ∷ [])) (more_at (length s) separator item q.0.rest) all q.1.1 in
    subst (λ (a : Read (List V)). Are s a.rest a.value) w.1.1 (behind_sound separator item Are last more (length s) s q.0 w.0 q.1.0 w.1.0)

-- a mark of two bytes
record Mark (b : ℕ) (s t : List ℕ) : Type 0 where
  pub behind : List ℕ
  pub front : without_blanks s ≡ b ∷ b ∷ behind
  pub back : without_blanks behind ≡ t

mark_is : (b : ℕ) (s t : List ℕ) → after_pair b s ≡ Some t → Mark b s t
mark_is b s t e =
    let p = mapped without_blanks (option_and_then (after_byte b) (after_byte b (without_blanks s))) t e in
    let q = and_then (after_byte b) (after_byte b (without_blanks s)) p.0 p.1.0 in
    record {
      behind = p.0;
      front = byte_is b (without_blanks s) q.0 q.1.0 ∙ ap (λ (x : List ℕ). b ∷ x) (byte_is b q.0 p.0 q.1.1);
      back = p.1.1;
    }

-- ---- expressions and literals

text_was : (b : List ℕ) (t : List ℕ) → text_in b ≡ Some t → (b ≡ t) × IsUtf8 t
unfolding text_in
text_was b t e = elim (cond_by (is_utf8 b) (Some b) None t e) [
  | inl p ↦ (some_is p.1, subst IsUtf8 (some_is p.1) (IsUtf8-from_is_utf8 b p.0))
  | inr p ↦ let none : let o : Option (List ℕ) = None in o ≡ Some t = p.1 in absurd cc
]

texted_was : (p n : List ℕ × List ℕ) → texted p ≡ Some n → (p ≡ n) × IsUtf8 n.0
texted_was p n e =
    let q = mapped (λ (t : List ℕ). (t, p.1)) (text_in p.0) n e in
    let w = text_was p.0 q.0 q.1.0 in
    (ap (λ (x : List ℕ). let y : List ℕ × List ℕ = (x, p.1) in y) w.0 ∙ q.1.1, subst (λ (x : List ℕ × List ℕ). IsUtf8 x.0) q.1.1 w.1)

expression_sound : (f : Bool) (n : ℕ) → Sound expression_at (IsNot f n)
unfolding expression_at
expression_sound f n s one e =
    let c = run is_pointer_byte s in
    let q = mapped (λ (e : Expr). found c.1 (term.Value e)) (option_and_then expression_of (text_in c.0)) one e in
    let w = and_then expression_of (text_in c.0) q.0 q.1.0 in
    let t = text_was c.0 w.0 w.1.0 in
    let reads : Reads w.0 q.0 = from_some (expression_of w.0) (Reads w.0) q.0 (reading-sound w.0) w.1.1 in
    subst (λ (o : Read Term). IsNot f n s o.rest o.value) q.1.1
    (g.expression (record { text = w.0; cut = ap (λ (x : List ℕ). let y : List ℕ × List ℕ = (x, c.1) in y) t.0; characters = t.1; reads = reads }))

abbrev LiteralAt : Bool → List ℕ → Read Literal → Type 0
LiteralAt f s o = IsLiteral f s o.rest o.value

text_is : (a b : List ℕ) → bytes_eq a b ≡ true → a ≡ b
text_is a b h = (bytes_eq-Decides a b).0 h

word_is : (s word : List ℕ) → bytes_eq (run is_ascii_lowercase s).0 word ≡ true → run is_ascii_lowercase s ≡ (word, (run is_ascii_lowercase s).1)
word_is s word h = ap (λ (w : List ℕ). let y : List ℕ × List ℕ = (w, (run is_ascii_lowercase s).1) in y) (text_is (run is_ascii_lowercase s).0 word h)

keyword_sound : (f : Bool) → Sound keyword_at (IsLiteral f)
unfolding keyword_of
keyword_sound f s one e =
    let c = run is_ascii_lowercase s in
    elim (cond_by (bytes_eq c.0 (codes "true")) (Some (found c.1 (lit.Flag true))) _ one e) [
      | inl p ↦ subst (λ o. LiteralAt f s o) (some_is p.1) (g.true_word (word_is s (codes "true") p.0))
      | inr n ↦ elim (cond_by (bytes_eq c.0 (codes "false")) (Some (found c.1 (lit.Flag false))) _ one n.1) [
        | inl p ↦ subst (λ o. LiteralAt f s o) (some_is p.1) (g.false_word (word_is s (codes "false") p.0))
        | inr n ↦ elim (cond_by (bytes_eq c.0 (codes "null")) (Some (found c.1 lit.Null)) None one n.1) [
          | inl p ↦ subst (λ o. LiteralAt f s o) (some_is p.1) (g.null_word (word_is s (codes "null") p.0))
          | inr n ↦ let none : let o : Option (Read Literal) = None in o ≡ Some one = n.1 in cc
        ]
      ]
    ]

number_by : (f : Bool) (s : List ℕ) (q : Number ℤ) → IsNumber s q.rest q.value q.marks → (o : Option Flaw) → q.marks.flaw ≡ o → (l : Literal) → number_as f q.value o ≡ Some l → IsLiteral f s q.rest l
number_by f s q is None e l h = subst (λ (x : Literal). IsLiteral f s q.rest x) (some_is h) (g.integer is e)
number_by f s q is (Some x) e l h = kinds x.kind refl h
  where
    kinds : (k : FlawKind) → x.kind ≡ k → fraction_as f k ≡ Some l → IsLiteral f s q.rest l
    kinds flaw.IllTyped k h = let none : let o : Option Literal = None in o ≡ Some l = h in absurd cc
    kinds flaw.Fraction k h = elim (cond_by f (Some lit.Null) None l h) [
      | inl p ↦ subst (λ (x : Literal). IsLiteral f s q.rest x) (some_is p.1) (g.fraction p.0 is e k)
      | inr p ↦ let none : let o : Option Literal = None in o ≡ Some l = p.1 in absurd cc
    ]
    kinds flaw.IntegerRange k h = let none : let o : Option Literal = None in o ≡ Some l = h in absurd cc

number_sound : (f : Bool) → Sound (number_at f) (IsLiteral f)
unfolding number_at
number_sound f s one e =
    let q = and_then (number_of f) (literal_at s) one e in
    let w = mapped (found q.0.rest) (number_as f q.0.value q.0.marks.flaw) one q.1.1 in
    subst (λ o. LiteralAt f s o) w.1.1 (number_by f s q.0 (number_to s q.0 q.1.0) q.0.marks.flaw refl w.0 w.1.0)

within_to : (m : ℕ) (s : List ℕ) (p : List ℕ × List ℕ) → quoted_within m s ≡ Some p → AreCharacters s p.1 p.0
unfolding quoted_within
within_to zero s p e = let none : let o : Option (List ℕ × List ℕ) = None in o ≡ Some p = e in absurd cc
within_to (suc m) s p e =
    elim (chosen_by (character_at s) (λ (c : ℕ × List ℕ). option_map (with_byte c.0) (quoted_within m c.1)) (ended s) p e) [
      | inl k ↦
          let w = mapped (with_byte k.0.0) (quoted_within m k.0.1) p k.1.1 in
          subst (λ (o : List ℕ × List ℕ). AreCharacters s o.1 o.0) w.1.1 (one s k.0 k.1.0 w.0.1 w.0.0 (within_to m k.0.1 w.0 w.1.0))
      | inr k ↦
          let w = mapped (λ (r : List ℕ). let y : List ℕ × List ℕ = ([], r) in y) (after_byte 39 s) p k.1 in
          let is = byte_is 39 s w.0 w.1.0 in
          subst (λ (o : List ℕ × List ℕ). AreCharacters s o.1 o.0) w.1.1
          (subst (λ (x : List ℕ). AreCharacters x w.0 []) (sym is) (g.last_quote (single w.0 (subst (λ (x : List ℕ). character_at x ≡ None) is k.0))))
    ]
  where
    one : (s : List ℕ) (c : ℕ × List ℕ) → character_at s ≡ Some c → (r t : List ℕ) → AreCharacters c.1 r t → AreCharacters s r (c.0 ∷ t)
    one [] c e r t are = let none : let o : Option (ℕ × List ℕ) = None in o ≡ Some c = e in absurd cc
    one (x ∷ xs) c e r t are =
        elim (cond_by (x == 39) (option_map (λ (r : List ℕ). let y : ℕ × List ℕ = (x, r) in y) (after_byte 39 xs)) (Some (x, xs)) c e) [
          | inl p ↦
              let w = mapped (λ (r : List ℕ). let y : ℕ × List ℕ = (x, r) in y) (after_byte 39 xs) c p.1 in
              subst (λ (o : ℕ × List ℕ). AreCharacters o.1 r t → AreCharacters (x ∷ xs) r (o.0 ∷ t)) w.1.1
              (λ are. subst (λ (y : ℕ). AreCharacters (y ∷ xs) r (y ∷ t)) (sym (is_byte x 39 p.0))
              (subst (λ (z : List ℕ). AreCharacters (39 ∷ z) r (39 ∷ t)) (sym (byte_is 39 xs w.0 w.1.0)) (g.two_quotes are))) are
          | inr p ↦ subst (λ (o : ℕ × List ℕ). AreCharacters o.1 r t → AreCharacters (x ∷ xs) r (o.0 ∷ t)) (some_is p.1) (λ are. g.character p.0 are) are
        ]

    single : (r : List ℕ) → character_at (39 ∷ r) ≡ None → is_next (λ b. b == 39) r ≡ false
    single [] e = refl
    single (x ∷ xs) e = elim (cases_Bool (x == 39)) [
      | inl h ↦
          let some : let o : Option (ℕ × List ℕ) = Some (39, xs) in o ≡ None =
          ap (λ (b : Bool). option_map (λ (r : List ℕ). let y : ℕ × List ℕ = (39, r) in y) (cond b (Some xs) None)) (sym h) ∙ e in
          absurd cc
      | inr h ↦ h
    ]

string_to : (s : List ℕ) (t : List ℕ × List ℕ) → quoted_at s ≡ Some t → AreCharacters s t.1 t.0 × IsUtf8 t.0
unfolding quoted_at
string_to s t e =
    let p = and_then texted (quoted_within (length s) s) t e in
    let w = texted_was p.0 t p.1.1 in
    (subst (λ (o : List ℕ × List ℕ). AreCharacters s o.1 o.0) w.0 (within_to (length s) s p.0 p.1.0), w.1)

abbrev Spelled : Bool → ℕ → List ℕ → Read Term → Type 0
Spelled f n s o = IsNot f n s o.rest o.value

literal_sound : (f : Bool) (n : ℕ) (reader : Reader Literal) → Sound reader (IsLiteral f) → (s : List ℕ) (one : Read Term) → option_map literal (reader s) ≡ Some one → Spelled f n s one
literal_sound f n reader h s one e =
    let q = mapped literal (reader s) one e in
    subst (λ o. Spelled f n s o) q.1.1 (g.literal (h s q.0 q.1.0))

plain_sound : (f : Bool) (n : ℕ) → Sound (plain_at f) (IsNot f n)
unfolding plain_at
plain_sound f n [] one e = let none : let o : Option (Read Term) = None in o ≡ Some one = e in absurd cc
plain_sound f n (x ∷ xs) one e =
    elim (cond_by (x == 36) (expression_at (x ∷ xs)) _ one e) [
      | inl p ↦ expression_sound f n (x ∷ xs) one p.1
      | inr m ↦ elim (cond_by (x == 39) (option_map literal (text_at xs)) _ one m.1) [
        | inl p ↦
            let q = mapped literal (text_at xs) one p.1 in
            let t = mapped (λ (t : List ℕ × List ℕ). found t.1 (lit.Text t.0)) (quoted_at xs) q.0 q.1.0 in
            let w = string_to xs t.0 t.1.0 in
            at_byte (λ (y : List ℕ). Spelled f n y one) x 39 xs p.0
            (subst (λ o. Spelled f n (39 ∷ xs) o) q.1.1
            (subst (λ (o : Read Literal). Spelled f n (39 ∷ xs) (literal o)) t.1.1 (g.literal (g.quoted w.0 w.1))))
        | inr m ↦ elim (cond_by (is_ascii_lowercase x) (option_map literal (keyword_at (x ∷ xs))) (option_map literal (number_at f (x ∷ xs))) one m.1) [
          | inl p ↦ literal_sound f n keyword_at (keyword_sound f) (x ∷ xs) one p.1
          | inr p ↦ literal_sound f n (number_at f) (number_sound f) (x ∷ xs) one p.1
        ]
      ]
    ]

-- ---- conditions

no_equal : (s : List ℕ) → after_byte 61 s ≡ None → is_next (λ b. b == 61) s ≡ false
no_equal [] e = refl
no_equal (x ∷ xs) e = not_next 61 x xs e

abbrev Op : List ℕ → Comparison × List ℕ → Type 0
Op s c = IsOperator s c.1 c.0

operator_sound : (s : List ℕ) (c : Comparison × List ℕ) → operator_at s ≡ Some c → IsOperator s c.1 c.0
unfolding operator_at
operator_sound [] c e = cc
operator_sound (x ∷ xs) c e =
    elim (cond_by (x == 61) (option_map (λ t. (by.Equal, t)) (after_byte 61 xs)) _ c e) [
      | inl p ↦
          let q = mapped (λ t. (by.Equal, t)) (after_byte 61 xs) c p.1 in
          at_byte (λ y. Op y c) x 61 xs p.0 (at_rest (λ y. Op (61 ∷ y) c) 61 xs q.0 q.1.0 (subst (λ o. Op (61 ∷ 61 ∷ q.0) o) q.1.1 g.equal))
      | inr n ↦ elim (cond_by (x == 33) (option_map (λ t. (by.Unequal, t)) (after_byte 61 xs)) _ c n.1) [
        | inl p ↦
            let q = mapped (λ t. (by.Unequal, t)) (after_byte 61 xs) c p.1 in
            at_byte (λ y. Op y c) x 33 xs p.0 (at_rest (λ y. Op (33 ∷ y) c) 61 xs q.0 q.1.0 (subst (λ o. Op (33 ∷ 61 ∷ q.0) o) q.1.1 g.unequal))
        | inr n ↦ elim (cond_by (x == 60) (chosen (after_byte 61 xs) (λ t. Some (by.LessOrEqual, t)) (Some (by.Less, xs))) _ c n.1) [
          | inl p ↦ at_byte (λ y. Op y c) x 60 xs p.0 (elim (chosen_by (after_byte 61 xs) (λ t. Some (by.LessOrEqual, t)) (Some (by.Less, xs)) c p.1) [
            | inl q ↦ at_rest (λ y. Op (60 ∷ y) c) 61 xs q.0 q.1.0 (subst (λ o. Op (60 ∷ 61 ∷ q.0) o) (some_is q.1.1) g.less_or_equal)
            | inr q ↦ subst (λ o. Op (60 ∷ xs) o) (some_is q.1) (g.less (no_equal xs q.0))
          ])
          | inr n ↦ elim (cond_by (x == 62) (chosen (after_byte 61 xs) (λ t. Some (by.GreaterOrEqual, t)) (Some (by.Greater, xs))) None c n.1) [
            | inl p ↦ at_byte (λ y. Op y c) x 62 xs p.0 (elim (chosen_by (after_byte 61 xs) (λ t. Some (by.GreaterOrEqual, t)) (Some (by.Greater, xs)) c p.1) [
              | inl q ↦ at_rest (λ y. Op (62 ∷ y) c) 61 xs q.0 q.1.0 (subst (λ o. Op (62 ∷ 61 ∷ q.0) o) (some_is q.1.1) g.greater_or_equal)
              | inr q ↦ subst (λ o. Op (62 ∷ xs) o) (some_is q.1) (g.greater (no_equal xs q.0))
            ])
            | inr n ↦ let absurd_some : let o : Option (Comparison × List ℕ) = None in o ≡ Some c = n.1 in cc
          ]
        ]
      ]
    ]

comparison_sound : (f : Bool) (n : ℕ) (below : Reader Term) → Sound below (IsNot f n) → Sound (comparison_of below) (IsComparison f n)
unfolding comparison_of
comparison_sound f n below h s one e =
    let q = and_then (compared_with below) (below s) one e in
    elim (chosen_by (operator_at (without_blanks q.0.rest)) (other_of below q.0) (Some q.0) one q.1.1) [
      | inl p ↦
          let o = mapped (compared q.0 p.0.0) (below (without_blanks p.0.1)) one p.1.1 in
          subst (λ (o : Read Term). IsComparison f n s o.rest o.value) o.1.1
          (g.compared (h s q.0 q.1.0) (operator_sound (without_blanks q.0.rest) p.0 p.1.0) (h (without_blanks p.0.1) o.0 o.1.0))
      | inr p ↦ subst (λ (o : Read Term). IsComparison f n s o.rest o.value) (some_is p.1) (g.alone (h s q.0 q.1.0))
    ]

and_sound : (f : Bool) (n : ℕ) (below : Reader Term) → Sound below (IsNot f n) → Sound (and_of below) (IsAnd f n)
unfolding and_of
and_sound f n below h s one e =
    let q = mapped (with_value (one_or term.All)) (items_at (after_pair 38) (comparison_of below) s) one e in
    subst (λ (o : Read Term). IsAnd f n s o.rest o.value) q.1.1 (g.and (items_sound (after_pair 38) (comparison_of below) (AreComparisons f n) last more s q.0 q.1.0))
  where
    last : (s : List ℕ) (one : Read Term) → comparison_of below s ≡ Some one → AreComparisons f n s one.rest (one.value ∷ [])
    last s one e = g.last_comparison (comparison_sound f n below h s one e)

    more : (s t r : List ℕ) (one : Read Term) (vs : List Term) → comparison_of below s ≡ Some one → after_pair 38 one.rest ≡ Some t → AreComparisons f n t r vs → AreComparisons f n s r (one.value ∷ vs)
    more s t r one vs e c are =
        let k = mark_is 38 one.rest t c in
        g.more_comparisons (comparison_sound f n below h s one e) k.front (subst (λ (x : List ℕ). AreComparisons f n x r vs) (sym k.back) are)

or_sound : (f : Bool) (n : ℕ) (below : Reader Term) → Sound below (IsNot f n) → Sound (or_of below) (IsOr f n)
unfolding or_of
or_sound f n below h s one e =
    let q = mapped (with_value (one_or term.Any)) (items_at (after_pair 124) (and_of below) s) one e in
    subst (λ (o : Read Term). IsOr f n s o.rest o.value) q.1.1 (g.or (items_sound (after_pair 124) (and_of below) (AreAnds f n) last more s q.0 q.1.0))
  where
    last : (s : List ℕ) (one : Read Term) → and_of below s ≡ Some one → AreAnds f n s one.rest (one.value ∷ [])
    last s one e = g.last_and (and_sound f n below h s one e)

    more : (s t r : List ℕ) (one : Read Term) (vs : List Term) → and_of below s ≡ Some one → after_pair 124 one.rest ≡ Some t → AreAnds f n t r vs → AreAnds f n s r (one.value ∷ vs)
    more s t r one vs e c are =
        let k = mark_is 124 one.rest t c in
        g.more_ands (and_sound f n below h s one e) k.front (subst (λ (x : List ℕ). AreAnds f n x r vs) (sym k.back) are)

not_step : (f : Bool) (n : ℕ) (below : Reader Term) → Sound below (IsNot f n) → Sound (not_of f below) (IsNot f (suc n))
unfolding not_of
not_step f n below h [] one e = let none : let o : Option (Read Term) = None in o ≡ Some one = e in absurd cc
not_step f n below h (x ∷ xs) one e =
    elim (cond_by (x == 33) (option_map negated (below (without_blanks xs))) _ one e) [
      | inl p ↦
          let q = mapped negated (below (without_blanks xs)) one p.1 in
          at_byte (λ (y : List ℕ). Spelled f (suc n) y one) x 33 xs p.0 (subst (λ o. Spelled f (suc n) (33 ∷ xs) o) q.1.1 (g.negated (h (without_blanks xs) q.0 q.1.0)))
      | inr m ↦ elim (cond_by (x == 40) (option_and_then closed (or_of below (without_blanks xs))) (plain_at f (x ∷ xs)) one m.1) [
        | inl p ↦
            let q = and_then closed (or_of below (without_blanks xs)) one p.1 in
            let c = mapped (with_rest q.0) (after_byte 41 (without_blanks q.0.rest)) one q.1.1 in
            at_byte (λ (y : List ℕ). Spelled f (suc n) y one) x 40 xs p.0
            (subst (λ o. Spelled f (suc n) (40 ∷ xs) o) c.1.1
            (g.parentheses (or_sound f n below h (without_blanks xs) q.0 q.1.0) (byte_is 41 (without_blanks q.0.rest) c.0 c.1.0)))
        | inr p ↦ plain_sound f (suc n) (x ∷ xs) one p.1
      ]
    ]

not_sound : (f : Bool) (n : ℕ) → Sound (not_at f n) (IsNot f n)
unfolding not_at
not_sound f zero s one e = plain_sound f zero s one e
not_sound f (suc n) s one e = not_step f n (not_at f n) (not_sound f n) s one e

nothing_left : (t : Term) (o : Read Term) → whole o ≡ Some t → (o.value ≡ t) × (o.rest ≡ [])
nothing_left t o e = go o.rest refl
  where
    go : (r : List ℕ) → o.rest ≡ r → (o.value ≡ t) × (o.rest ≡ [])
    go [] k = (some_is (ap (λ (r : List ℕ). cond (is_empty r) (Some o.value) None) (sym k) ∙ e), k)
    go (x ∷ xs) k = let none : let n : Option Term = None in n ≡ Some t = ap (λ (r : List ℕ). cond (is_empty r) (Some o.value) None) (sym k) ∙ e in absurd cc

-- what is read as a whole text is a condition
pub reading_sound : (f : Bool) (s : List ℕ) (t : Term) → reading f s ≡ Some t → IsCondition f s t
unfolding reading
reading_sound f s t e =
    let q = and_then whole (or_of (not_at f 64) s) t e in
    let w = nothing_left t q.0 q.1.1 in
    let is = or_sound f 64 (not_at f 64) (not_sound f 64) s q.0 q.1.0 in
    subst (λ (r : List ℕ). IsOr f 64 s r t) w.1 (subst (λ (v : Term). IsOr f 64 s q.0.rest v) w.0 is)
