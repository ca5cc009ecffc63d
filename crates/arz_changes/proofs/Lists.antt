-- Lists from a place on, and tests that both hold.
use Rattle.std.proofs.Common.{◌≡◌, ℕ, zero, suc, [], ◌+◌, ◌<◌, List, ◌∷◌, length, get_or, drop, drop-cons, Bool, true, false, ◌&&◌, Some, refl, sym, ap, ◌∙◌, add-one}

pub drop_at : {A : Type 0} (xs : List A) (i : ℕ) (x : A) → i < length xs → x ≡ get_or xs i x → drop i xs ≡ x ∷ drop (i + 1) xs
drop_at xs i x h is = rw add-one (drop-cons xs i x h ∙ ap (λ y. y ∷ drop (suc i) xs) (sym is))

pub left : (a b : Bool) → (a && b) ≡ true → a ≡ true
left true b p = refl
left false b p = p

pub right : (a b : Bool) → (a && b) ≡ true → b ≡ true
right true b p = p
right false b p = absurd (cc)

pub Some_inj : {A : Type 0} (x y : A) → Some x ≡ Some y → x ≡ y
Some_inj x y e = cc

pub drop_tail : {A : Type 0} (xs : List A) (i : ℕ) (x : A) (ys : List A) → drop i xs ≡ x ∷ ys → drop (suc i) xs ≡ ys
drop_tail [] zero x ys e = absurd (cc)
drop_tail [] (suc i) x ys e = absurd (cc)
drop_tail (y ∷ xs) zero x ys e = cc
drop_tail (y ∷ xs) (suc i) x ys e = drop_tail xs i x ys e

pub drop_head : {A : Type 0} (xs : List A) (i : ℕ) (x d : A) (ys : List A) → drop i xs ≡ x ∷ ys → get_or xs i d ≡ x
drop_head [] zero x d ys e = absurd (cc)
drop_head [] (suc i) x d ys e = absurd (cc)
drop_head (y ∷ xs) zero x d ys e = cc
drop_head (y ∷ xs) (suc i) x d ys e = drop_head xs i x d ys e
