-- A text split at a byte.
use Rattle.std.proofs.Common.{◌≡◌, ◌≢◌, ◌==◌, ◌<◌, ℕ, Bool, true, false, List, ◌∷◌, ◌++◌, length, get_or, nat_lt, if◌then◌else◌, Option, Some, None, refl, sym, ap, ◌∙◌, subst, arith}
use Rattle.std.specs.List.{position_or_len, before_first, after_first}
use Rattle.std.proofs.lemmas.Bool.{eqb-false, eqb-true, ltb-true, ltb-false}
use Rattle.std.proofs.lemmas.List.{get_or-take, length-take}
use Rattle.std.proofs.lemmas.List.Sums.{fails_before_first, passes_at_first, split_at_first}
use Rattle.json.proofs.Found.{Some_inj}
use Rattle.arz_json.specs.Texts.{split_once}

-- none of the bytes is c
abbrev pub Lacks : ℕ → List ℕ → Type 0
Lacks c xs = (i : ℕ) → i < length xs → get_or xs i 0 ≢ c

-- the place of the first c, or the length
abbrev place : ℕ → List ℕ → ℕ
place c text = position_or_len (λ b. b == c) text

lacks-before : (c : ℕ) (text : List ℕ) (i : ℕ) → i < place c text → get_or text i 0 ≢ c
lacks-before c text i lt = eqb-false (get_or text i 0) c (fails_before_first (λ b. b == c) text i 0 lt)

lacks-front : (c : ℕ) (text : List ℕ) → Lacks c (before_first (λ b. b == c) text)
lacks-front c text i lt =
    let below : i < place c text = omega (arith, lt, length-take (place c text) text) in
    subst (λ b. b ≢ c) (sym (get_or-take (place c text) text i 0 below)) (lacks-before c text i below)

whole-at : (c : ℕ) (text : List ℕ) → place c text < length text → text ≡ before_first (λ b. b == c) text ++ c ∷ after_first (λ b. b == c) text
whole-at c text lt =
    split_at_first (λ b. b == c) text 0 lt
    ∙ ap (λ b. before_first (λ b. b == c) text ++ b ∷ after_first (λ b. b == c) text) (eqb-true (get_or text (place c text) 0) c (passes_at_first (λ b. b == c) text 0 lt))

abbrev split_if : ℕ → List ℕ → Bool → Option (List ℕ × List ℕ)
split_if c text has = if has then Some (before_first (λ b. b == c) text, after_first (λ b. b == c) text) else None

none-if : (c : ℕ) (text : List ℕ) (has : Bool) → nat_lt (place c text) (length text) ≡ has → split_if c text has ≡ None → Lacks c text
none-if c text true is none i lt = absurd (cc)
none-if c text false is none i lt = lacks-before c text i (omega (arith, lt, ltb-false (place c text) (length text) is))

some-if : (c : ℕ) (text front rest : List ℕ) (has : Bool) → nat_lt (place c text) (length text) ≡ has → split_if c text has ≡ Some (front, rest) → (text ≡ front ++ c ∷ rest) × Lacks c front
some-if c text front rest true is some =
    let parts = Some_inj (before_first (λ b. b == c) text, after_first (λ b. b == c) text) (front, rest) some in (
      whole-at c text (ltb-true (place c text) (length text) is) ∙ ap (λ (p : List ℕ × List ℕ). p.0 ++ c ∷ p.1) parts,
      subst (Lacks c) (ap (λ (p : List ℕ × List ℕ). p.0) parts) (lacks-front c text),
    )
some-if c text front rest false is some = absurd (cc)

-- where nothing was split, no byte is the separator
pub split-none : (c : ℕ) (text : List ℕ) → split_once c text ≡ None → Lacks c text
split-none c text none = none-if c text (nat_lt (place c text) (length text)) refl none

-- the parts stand round the first separator
pub split-some : (c : ℕ) (text front rest : List ℕ) → split_once c text ≡ Some (front, rest) → (text ≡ front ++ c ∷ rest) × Lacks c front
split-some c text front rest some = some-if c text front rest (nat_lt (place c text) (length text)) refl some
