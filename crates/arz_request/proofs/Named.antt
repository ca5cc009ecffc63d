-- Things by their names, put into a map from the last one to the first.
use Rattle.std.proofs.Common.{◌≡◌, ℕ, ◌+◌, ◌-◌, ◌<◌, ◌≤◌, Bool, true, false, cond, ◌&&◌, List, ◌∷◌, length, get_or, drop, drop-cons, add-one, Option, Some, option_map, refl, sym, ap, ap₂, ◌∙◌, arith}
use Rattle.std.specs.BTreeMap.{get_by}
use Rattle.std.specs.Cmp.Lexicographic.{slice_cmp}
use Rattle.std.specs.Ordering.{nat_cmp}
use Rattle.std.specs.Str.{bytes_eq}
use Rattle.arz_request.specs.Named.{Under, found_in, first_named, Holds}

rest_of : {A : Type 0} (xs : List A) (i : ℕ) (x : A) → i < length xs → x ≡ get_or xs i x → drop i xs ≡ x ∷ drop (i + 1) xs
rest_of xs i x h is = drop-cons xs i x h ∙ ap₂ (λ y k. y ∷ drop k xs) (sym is) (sym (add-one i))

module _ {X Y : Type 0} (see : X → Y) (name : Y → List ℕ) (fits : Y → Bool) where
  -- what the map itself has
  abbrev pub at : Under X → List ℕ → Option X
  at m q = get_by (λ k. slice_cmp nat_cmp q k.now) m

  put : (b : Bool) (x : X) (o : Option X) → option_map see (cond b (Some x) o) ≡ cond b (Some (see x)) (option_map see o)
  put true x o = refl
  put false x o = refl

  -- the first of those from k on
  abbrev first_from : List Y → ℕ → List ℕ → Option Y
  first_from ys k q = first_named see name fits (drop k ys) q

  first-step : (ys : List Y) (k : ℕ) (y : Y) (q : List ℕ) → 0 < k → k ≤ length ys → y ≡ get_or ys (k - 1) y
      → first_from ys (k - 1) q ≡ cond (fits y && bytes_eq (name y) q) (Some y) (first_from ys k q)
  first-step ys k y q some within is =
      let h : k - 1 < length ys = omega arith in
      let e : k - 1 + 1 ≡ k = omega arith in
      ap (λ (rest : List Y). first_named see name fits rest q) (rest_of ys (k - 1) y h is)
      ∙ ap (λ i. cond (fits y && bytes_eq (name y) q) (Some y) (first_from ys i q)) e

  pub put-first : (old new : Under X) (ys : List Y) (k : ℕ) (y : Y) (x : X) (key : List ℕ)
      → ((q : List ℕ) → at new q ≡ cond (bytes_eq key q) (Some x) (at old q))
      → key ≡ name y → see x ≡ y → fits y ≡ true → 0 < k → k ≤ length ys → y ≡ get_or ys (k - 1) y
      → Holds see name fits old (drop k ys) → Holds see name fits new (drop (k - 1) ys)
  put-first old new ys k y x key after same value fitting some within is before = λ q.
      ap (option_map see) (after q) ∙ put (bytes_eq key q) x (at old q)
      ∙ ap (λ s. cond (bytes_eq s q) (Some (see x)) (found_in see name fits old q)) same
      ∙ ap (λ v. cond (bytes_eq (name y) q) (Some v) (found_in see name fits old q)) value
      ∙ ap (λ o. cond (bytes_eq (name y) q) (Some y) o) (before q)
      ∙ ap (λ b. cond (b && bytes_eq (name y) q) (Some y) (first_from ys k q)) (sym fitting)
      ∙ sym (first-step ys k y q some within is)

  pub passed : (old : Under X) (ys : List Y) (k : ℕ) (y : Y) → fits y ≡ false → 0 < k → k ≤ length ys → y ≡ get_or ys (k - 1) y
      → Holds see name fits old (drop k ys) → Holds see name fits old (drop (k - 1) ys)
  passed old ys k y other some within is before = λ q.
      before q ∙ ap (λ b. cond (b && bytes_eq (name y) q) (Some y) (first_from ys k q)) (sym other) ∙ sym (first-step ys k y q some within is)
