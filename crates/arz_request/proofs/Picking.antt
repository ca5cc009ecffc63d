-- What is made of the items that pass a test, one item more.
use Rattle.std.proofs.Common.{◌≡◌, ℕ, ◌+◌, ◌<◌, Bool, true, false, cond, List, [], ◌∷◌, ◌++◌, length, map, take, get_or, ap, sym, ◌∙◌, append-nil}
use Rattle.std.specs.List.{filter}
use Rattle.std.proofs.lemmas.List.{take_more, map-append}
use Rattle.std.proofs.lemmas.List.Elements.{filter-append}

take-step : {A : Type 0} (xs : List A) (i : ℕ) (x : A) → i < length xs → x ≡ get_or xs i x → take (i + 1) xs ≡ take i xs ++ x ∷ []
take-step xs i x lt is = take_more xs i x lt ∙ ap (λ y. take i xs ++ y ∷ []) (sym is)

module _ {A B : Type 0} (f : A → B) (p : A → Bool) where
  abbrev pub picked : List A → List B
  picked xs = map f (filter p xs)

  one-more : (xs : List A) (i : ℕ) (x : A) (b : Bool) → i < length xs → x ≡ get_or xs i x → p x ≡ b → picked (take (i + 1) xs) ≡ picked (take i xs) ++ map f (cond b (x ∷ []) [])
  one-more xs i x b lt is test =
      ap picked (take-step xs i x lt is) ∙ ap (map f) (filter-append p (take i xs) (x ∷ [])) ∙ map-append f (filter p (take i xs)) (filter p (x ∷ []))
      ∙ ap (λ t. picked (take i xs) ++ map f (cond t (x ∷ []) [])) test

  pub takes : (xs : List A) (i : ℕ) (x : A) → i < length xs → x ≡ get_or xs i x → p x ≡ true → picked (take (i + 1) xs) ≡ picked (take i xs) ++ f x ∷ []
  takes xs i x lt is test = one-more xs i x true lt is test

  pub passes : (xs : List A) (i : ℕ) (x : A) → i < length xs → x ≡ get_or xs i x → p x ≡ false → picked (take (i + 1) xs) ≡ picked (take i xs)
  passes xs i x lt is test = one-more xs i x false lt is test ∙ append-nil (picked (take i xs))
