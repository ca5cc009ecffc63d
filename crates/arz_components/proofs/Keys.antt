-- Keys at the front of a text.
use Rattle.std.proofs.Common.{◌≡◌, ◌≢◌, inl, inr, ℕ, ◌+◌, List, [], ◌∷◌, ◌++◌, length, drop, Option, Some, None, option_copied, MatchOption, IfSome, Bor, refl, ap, sym, ◌∙◌}
use Rattle.std.specs.Str.Pattern.{FindsTextPrefix}
use Rattle.std.proofs.lemmas.Bool.{eq-eqb, ne_eqb, cases_eq}
use Rattle.std.proofs.lemmas.Option.{IfSome_then}
use Rattle.arz_components.specs.Texts.{after}

after-front : (key rest : List ℕ) → after key (key ++ rest) ≡ Some rest
after-front [] rest = refl
after-front (k ∷ key) rest = rw (eq-eqb k k refl) (after-front key rest)

after-parts : (key text : List ℕ) → IfSome (after key text) (λ rest. text ≡ key ++ rest)
after-parts [] text = refl
after-parts (k ∷ key) [] = tt
after-parts (k ∷ key) (b ∷ text) =
    elim (cases_eq b k) [
      | inl h ↦ rw (eq-eqb b k h) (IfSome_then (after key text) (after-parts key text) (λ rest e. rw h (ap (λ t. k ∷ t) e)))
      | inr h ↦ rw (ne_eqb b k h) tt
    ]

none_unless : (key text : List ℕ) (o : Option (List ℕ)) → IfSome o (λ rest. text ≡ key ++ rest) → ((rest : List ℕ) → text ≢ key ++ rest) → o ≡ None
none_unless key text None parts lacks = refl
none_unless key text (Some rest) parts lacks = absurd (lacks rest parts)

pub stripped : (key text : List ℕ) (r : Option (Bor (List ℕ)))
    → MatchOption r (FindsTextPrefix key text None) (λ x. (n : ℕ) × FindsTextPrefix key text (Some n) × (x.now ≡ drop n text) × (length x.now + n ≡ length text))
    → option_copied r ≡ after key text
stripped key text None lacks = sym (none_unless key text (after key text) (after-parts key text) lacks)
stripped key text (Some x) h =
    ap Some h.2 ∙ sym (after-front key (drop h.0 text)) ∙ ap (after key) (sym h.1.1)
