-- The last talk is changed, by trading it for another and back.
use Rattle.std.proofs.Common.{◌≡◌, ℕ, zero, suc, ◌+◌, ◌-◌, List, [], ◌∷◌, length, IsTrue, false, refl, sym, ◌∙◌, ap, arith, Some, slice_get, slice_set}
use Rattle.arz_world.specs.World.{on_last}
use Rattle.arz_world.specs.declared.world.Talk.{Talk}

some_inj : (a b : Talk) → Some a ≡ Some b → a ≡ b
some_inj a b same = cc same

pub changed_last : (f : Talk → Talk) (at : ℕ) (ts once twice : List Talk) (blank was now : Talk) → at + 1 ≡ length ts → once ≡ slice_set ts at blank → slice_get ts at ≡ Some was
    → twice ≡ slice_set once at now → now ≡ f was → twice ≡ on_last f ts
changed_last f at ts once twice blank was now is one got two made =
    two ∙ ap (λ (l : List Talk). slice_set l at now) one ∙ ap (λ (t : Talk). slice_set (slice_set ts at blank) at t) made ∙ last ts at is got
  where
    last : (us : List Talk) (k : ℕ) → k + 1 ≡ length us → slice_get us k ≡ Some was → slice_set (slice_set us k blank) k (f was) ≡ on_last f us
    last [] k long found = absurd (omega (arith, long))
    last (t ∷ []) zero long found = ap (λ (u : Talk). f u ∷ []) (sym (some_inj t was found))
    last (t ∷ []) (suc k) long found = absurd (omega (arith, long))
    last (t ∷ u ∷ us) zero long found = absurd (omega (arith, long))
    last (t ∷ u ∷ us) (suc k) long found = ap (λ (l : List Talk). t ∷ l) (last (u ∷ us) k (omega (arith, long)) found)

pub kept_last : (at : ℕ) (ts once twice : List Talk) (blank was now : Talk) → once ≡ slice_set ts at blank → slice_get ts at ≡ Some was
    → twice ≡ slice_set once at now → now ≡ was → twice ≡ ts
kept_last at ts once twice blank was now one got two same =
    two ∙ ap (λ (l : List Talk). slice_set l at now) one ∙ ap (λ (t : Talk). slice_set (slice_set ts at blank) at t) same ∙ back ts at got
  where
    back : (us : List Talk) (k : ℕ) → slice_get us k ≡ Some was → slice_set (slice_set us k blank) k was ≡ us
    back [] k found = refl
    back (t ∷ us) zero found = ap (λ (u : Talk). u ∷ us) (sym (some_inj t was found))
    back (t ∷ us) (suc k) found = ap (λ (l : List Talk). t ∷ l) (back us k found)

pub has_last : (ts : List Talk) (n : ℕ) → n ≡ length ts → (ts ≡ [] → IsTrue false) → n - 1 + 1 ≡ length ts
has_last [] n is some = absurd (cc (some refl))
has_last (t ∷ ts) n is some = omega (arith, is)
