-- Texts behind a prefix.
use Rattle.std.proofs.Common.{◌≡◌, ℕ, List, ◌++◌, length, take, drop, Bool, true, false, ◌&&◌, refl, sym, ap, ◌∙◌, take-append-drop}
use Rattle.std.proofs.Math.Seq.{take-append_seam}
use Rattle.std.proofs.lemmas.Slice.Eq.{bytes_eq-Decides}
use Rattle.arz_rules.specs.Texts.{starts_with}

-- a text that is a prefix and a rest starts with the prefix
pub starts : (prefix rest s : List ℕ) → s ≡ prefix ++ rest → starts_with prefix s ≡ true
starts prefix rest s e = (bytes_eq-Decides (take (length prefix) s) prefix).1 (ap (take (length prefix)) e ∙ take-append_seam prefix rest)

no_start : (prefix s : List ℕ) (b : Bool) → ((rest : List ℕ) → s ≡ prefix ++ rest → ⊥) → (b ≡ true → take (length prefix) s ≡ prefix) → b ≡ false
no_start prefix s true h e = absurd (h (drop (length prefix) s) (sym (take-append-drop (length prefix) s) ∙ ap (λ x. x ++ drop (length prefix) s) (e refl)))
no_start prefix s false h e = refl

-- and one that isn't doesn't
pub starts_not : (prefix s : List ℕ) → ((rest : List ℕ) → s ≡ prefix ++ rest → ⊥) → starts_with prefix s ≡ false
starts_not prefix s h = no_start prefix s (starts_with prefix s) h (bytes_eq-Decides (take (length prefix) s) prefix).0

-- a test of what stands behind the prefix
pub behind : (test : List ℕ → Bool) (prefix s rest : List ℕ) (n : ℕ) → n ≡ length prefix → s ≡ prefix ++ drop n s → rest ≡ drop n s → test rest ≡ (starts_with prefix s && test (drop (length prefix) s))
behind test prefix s rest n e is r = ap test (r ∙ ap (λ k. drop k s) e) ∙ sym (ap (λ b. b && test (drop (length prefix) s)) (starts prefix (drop n s) s is))

pub not_behind : (test : List ℕ → Bool) (prefix s : List ℕ) → ((rest : List ℕ) → s ≡ prefix ++ rest → ⊥) → false ≡ (starts_with prefix s && test (drop (length prefix) s))
not_behind test prefix s h = sym (ap (λ b. b && test (drop (length prefix) s)) (starts_not prefix s h))
