-- Bytes that are texts, and texts behind `#`.
use Rattle.std.proofs.Common.{◌≡◌, ◌≢◌, ℕ, List, [], ◌∷◌, Option, Some, None, Bool, true, false, cond, MatchOption, option_copied, Bor, IsUtf8, refl, sym, ap, ◌∙◌}
use Rattle.std.specs.Str.{is_utf8}
use Rattle.std.proofs.lemmas.Str.{is_utf8-from_IsUtf8, IsUtf8-from_is_utf8}
use Rattle.std.proofs.lemmas.Bool.{ne_eqb}
use Rattle.arz_openapi.specs.Rules.{local}

pub is_text : (bytes text : List ℕ) → text ≡ bytes → IsUtf8 bytes → Some text ≡ cond (is_utf8 bytes) (Some bytes) None
is_text bytes text e u = ap Some e ∙ sym (ap (λ b. cond b (Some bytes) None) (is_utf8-from_IsUtf8 bytes u))

at_test : (bytes : List ℕ) (b : Bool) → is_utf8 bytes ≡ b → ¬ (IsUtf8 bytes) → None ≡ cond b (Some bytes) None
at_test bytes true e n = absurd (n (IsUtf8-from_is_utf8 bytes e))
at_test bytes false e n = refl

pub is_none : (bytes : List ℕ) → ¬ (IsUtf8 bytes) → None ≡ cond (is_utf8 bytes) (Some bytes) None
is_none bytes n = at_test bytes (is_utf8 bytes) refl n

outside : (text : List ℕ) → ((rest : List ℕ) → text ≢ 35 ∷ rest) → None ≡ local text
outside [] h = refl
outside (b ∷ bs) h = rw (ne_eqb b 35 (λ e. h bs (ap (λ y. y ∷ bs) e))) refl

pub local_is : (text : List ℕ) (r : Option (Bor (List ℕ))) → MatchOption r ((rest : List ℕ) → text ≢ 35 ∷ rest) (λ x. text ≡ 35 ∷ x.now) → option_copied r ≡ local text
local_is text None h = outside text h
local_is text (Some x) h = sym (ap local h)
