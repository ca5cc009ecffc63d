-- The name before a `}`.
use Rattle.std.proofs.Common.{◌≡◌, ◌≢◌, inl, inr, ℕ, suc, ◌+◌, ◌<◌, nat_lt, ◌==◌, Bool, true, false, cond, List, [], ◌∷◌, ◌++◌, length, get_or, take, drop, Option, Some, None, refl, ap, sym, ◌∙◌, subst, arith, length-append}
use Rattle.std.specs.List.{list_all, prefix_len, position_or_len}
use Rattle.std.specs.Str.{IsCharBoundary}
use Rattle.std.proofs.lemmas.Bool.{cases_Bool, cases_lt, and_parts}
use Rattle.std.proofs.lemmas.Bool.Decides.{nat_tests}
use Rattle.std.proofs.lemmas.List.{take-append-drop}
use Rattle.std.proofs.lemmas.List.Folds.{length-prefix_len}
use Rattle.std.proofs.lemmas.List.Sums.{split_at_first, passes_at_first, prefix_len_stops, prefix_len-le-length}
use Rattle.std.proofs.lemmas.Str.{IsCharBoundary-before_ascii, IsCharBoundary-end}
use Rattle.std.proofs.Math.Seq.{take-append_seam, drop-append_seam, drop-append-add}
use Rattle.arz_json.specs.Texts.{split_once}
use Rattle.arz_target.specs.Templates.{is_inside, is_name, name_before}

ascii : (b : ℕ) → is_inside b ≡ false → b < 128
ascii b outside = grind (arith, nat_tests)

-- the bytes of a name, and what ends it
pub inside-len : (name rest : List ℕ) → list_all is_inside name ≡ true → prefix_len is_inside (name ++ 125 ∷ rest) ≡ length name
inside-len [] rest all = refl
inside-len (b ∷ name) rest all =
    let parts = and_parts (is_inside b) (list_all is_inside name) all in
    rw parts.0 (omega (arith, inside-len name rest parts.1))

no-brace : (b : ℕ) → is_inside b ≡ true → (b == 125) ≡ false
no-brace b inside = grind arith

brace-at : (name rest : List ℕ) → list_all is_inside name ≡ true → position_or_len (λ b. b == 125) (name ++ 125 ∷ rest) ≡ length name
brace-at [] rest all = refl
brace-at (b ∷ name) rest all =
    let parts = and_parts (is_inside b) (list_all is_inside name) all in
    rw (no-brace b parts.0) (omega (arith, brace-at name rest parts.1))

cut-to : (name rest : List ℕ) (n : ℕ) → n ≡ length name
    → ◌≡◌ {A = Option (List ℕ × List ℕ)} (Some (take n (name ++ 125 ∷ rest), drop (n + 1) (name ++ 125 ∷ rest))) (Some (name, rest))
cut-to name rest n is = rw (is, take-append_seam name (125 ∷ rest), drop-append-add name (125 ∷ rest) 1) refl

split : (name rest : List ℕ) → list_all is_inside name ≡ true → split_once 125 (name ++ 125 ∷ rest) ≡ Some (name, rest)
split name rest all =
    let at = brace-at name rest all in
    let within : nat_lt (position_or_len (λ b. b == 125) (name ++ 125 ∷ rest)) (length (name ++ 125 ∷ rest)) ≡ true = rw at (grind (arith, nat_tests, length-append name (125 ∷ rest))) in
    rw within (cut-to name rest (position_or_len (λ b. b == 125) (name ++ 125 ∷ rest)) at)

pub named : (tail name rest : List ℕ) → tail ≡ name ++ 125 ∷ rest → list_all is_inside name ≡ true → 0 < length name → name_before (split_once 125 tail) ≡ Some name
named tail name rest is all some = ap (λ t. name_before (split_once 125 t)) is ∙ ap name_before (split name rest all) ∙ grind arith

-- the bytes at the front that may stand in a name end where a text may be cut
pub boundary : (text : List ℕ) → IsCharBoundary text (prefix_len is_inside text)
boundary text =
    elim (cases_lt (prefix_len is_inside text) (length text)) [
      | inl lt ↦ IsCharBoundary-before_ascii text (prefix_len is_inside text) lt (ascii (get_or text (prefix_len is_inside text) 0) (prefix_len_stops is_inside text 0 lt))
      | inr le ↦ let all : length text ≡ prefix_len is_inside text = omega (arith, prefix_len-le-length is_inside text) in subst (λ n. IsCharBoundary text n) all (IsCharBoundary-end text)
    ]

inside-step : (b : ℕ) (text : List ℕ) (n : ℕ) → is_inside b ≡ true → list_all is_inside (take n text) ≡ true → list_all is_inside (take (1 + n) (b ∷ text)) ≡ true
inside-step b text n is rest =
    let one : 1 + n ≡ suc n = omega arith in
    rw one (rw is rest)

front-inside : (text : List ℕ) → list_all is_inside (take (prefix_len is_inside text) text) ≡ true
front-inside [] = refl
front-inside (b ∷ text) =
    let at = λ (t : Bool). list_all is_inside (take (cond t (1 + prefix_len is_inside text) 0) (b ∷ text)) in
    elim (cases_Bool (is_inside b)) [
      | inl e ↦ ap at e ∙ inside-step b text (prefix_len is_inside text) e (front-inside text)
      | inr e ↦ ap at e
    ]

-- a text that a `}` cuts
whole : (tail : List ℕ) (cut : List ℕ × List ℕ) → split_once 125 tail ≡ Some cut → tail ≡ cut.0 ++ 125 ∷ cut.1
whole tail cut is =
    let at = position_or_len (λ b. b == 125) tail in
    elim (cases_lt at (length tail)) [
      | inl lt ↦ grind (arith, nat_tests, passes_at_first (λ b. b == 125) tail 0 lt, split_at_first (λ b. b == 125) tail 0 lt)
      | inr le ↦ grind arith
    ]

abbrev Ends : List ℕ → Type 0
Ends tail = (0 < prefix_len is_inside tail) × (rest : List ℕ) × (drop (prefix_len is_inside tail) tail ≡ 125 ∷ rest)

named-ends : (tail : List ℕ) (cut : List ℕ × List ℕ) → split_once 125 tail ≡ Some cut → is_name cut.0 ≡ true → Ends tail
named-ends tail cut is name =
    let parts = and_parts (nat_lt 0 (length cut.0)) (list_all is_inside cut.0) name in
    let cut-at = whole tail cut is in
    let len : prefix_len is_inside tail ≡ length cut.0 = ap (prefix_len is_inside) cut-at ∙ inside-len cut.0 cut.1 parts.1 in
    let some : 0 < length cut.0 = grind (arith, parts.0) in
    (rw len some, cut.1, rw len (ap (drop (length cut.0)) cut-at ∙ drop-append_seam cut.0 (125 ∷ cut.1)))

unnamed-cut : (tail : List ℕ) (cut : Option (List ℕ × List ℕ)) → split_once 125 tail ≡ cut → (Ends tail → ⊥) → name_before cut ≡ None
unnamed-cut tail None is never = refl
unnamed-cut tail (Some cut) is never =
    elim (cases_Bool (is_name cut.0)) [
      | inl e ↦ absurd (never (named-ends tail cut is e))
      | inr e ↦ rw e refl
    ]

pub unnamed : (tail : List ℕ) → (Ends tail → ⊥) → name_before (split_once 125 tail) ≡ None
unnamed tail never = unnamed-cut tail (split_once 125 tail) refl never

-- no byte of a name comes first
pub empty : (tail name : List ℕ) (n : ℕ) → n ≡ prefix_len is_inside tail → name ≡ take n tail → length name ≡ 0 → name_before (split_once 125 tail) ≡ None
empty tail name n at front none =
    let size : length (take n tail) ≡ n = ap (λ k. length (take k tail)) at ∙ length-prefix_len is_inside tail ∙ sym at in
    unnamed tail (λ e. omega (arith, none, at, ap length front, size, e.0))

-- no `}` comes behind the bytes of a name
pub unended : (tail behind : List ℕ) (n : ℕ) → n ≡ prefix_len is_inside tail → behind ≡ drop n tail → ((rest : List ℕ) → behind ≢ 125 ∷ rest) → name_before (split_once 125 tail) ≡ None
unended tail behind n at back never = unnamed tail (λ e. never e.1 (back ∙ ap (λ k. drop k tail) at ∙ e.2))

pub ended : (tail name behind rest : List ℕ) (n : ℕ) → n ≡ prefix_len is_inside tail → name ≡ take n tail → behind ≡ drop n tail → 0 < length name → behind ≡ 125 ∷ rest
    → (name_before (split_once 125 tail) ≡ Some name) × (tail ≡ name ++ 125 ∷ rest)
ended tail name behind rest n at front back some is =
    let inside : list_all is_inside name ≡ true = ap (list_all is_inside) (front ∙ ap (λ k. take k tail) at) ∙ front-inside tail in
    let cut : tail ≡ name ++ 125 ∷ rest = sym (take-append-drop n tail) ∙ ap (λ t. t ++ drop n tail) (sym front) ∙ ap (λ t. name ++ t) (sym back ∙ is) in
    (named tail name rest cut inside some, cut)
