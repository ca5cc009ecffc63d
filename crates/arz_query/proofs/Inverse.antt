-- What a reading that gave something was.
use Rattle.std.proofs.Common.{◌≡◌, ℕ, List, [], ◌∷◌, Bool, true, false, cond, Option, Some, None, option_map, option_and_then, ◌⊎◌, inl, inr, refl, ap, arith}
use Rattle.std.proofs.lemmas.Bool.{cases_Bool}
use Rattle.std.proofs.lemmas.Grind.{common_steps}
use Rattle.arz_query.specs.Words.{chosen}
use Rattle.arz_query.specs.Lexical.{after_byte, is_of, is_next, cut}
use Rattle.arz_query.specs.Grammar.{IsBlank, nothing, blank}
use Rattle.arz_query.specs.declared.words.Class.TheVariants as class

pub some_is : {X : Type 0} {x y : X} → let o : Option X = Some x in o ≡ Some y → x ≡ y
some_is {X} {x} {y} e = ap (λ (o : Option X). elim o as (λ _. X) [ None ↦ x | Some z ↦ z ]) e

pub and_then : {X Y : Type 0} (f : X → Option Y) (o : Option X) (y : Y) → option_and_then f o ≡ Some y → (x : X) × ((o ≡ Some x) × (f x ≡ Some y))
and_then f None y e = cc
and_then f (Some x) y e = (x, (refl, e))

pub mapped : {X Y : Type 0} (f : X → Y) (o : Option X) (y : Y) → option_map f o ≡ Some y → (x : X) × ((o ≡ Some x) × (f x ≡ y))
mapped f None y e = cc
mapped f (Some x) y e = (x, (refl, some_is e))

pub chosen_by : {X Y : Type 0} (o : Option X) (f : X → Option Y) (other : Option Y) (y : Y) → chosen o f other ≡ Some y →
    ((x : X) × ((o ≡ Some x) × (f x ≡ Some y))) ⊎ ((o ≡ None) × (other ≡ Some y))
chosen_by None f other y e = inr (refl, e)
chosen_by (Some x) f other y e = inl (x, (refl, e))

pub cond_by : {Y : Type 0} (b : Bool) (x y : Option Y) (z : Y) → cond b x y ≡ Some z → ((b ≡ true) × (x ≡ Some z)) ⊎ ((b ≡ false) × (y ≡ Some z))
cond_by true x y z e = inl (refl, e)
cond_by false x y z e = inr (refl, e)

pub byte_is : (b : ℕ) (s t : List ℕ) → after_byte b s ≡ Some t → s ≡ b ∷ t
byte_is b [] t e = cc
byte_is b (x ∷ xs) t e = grind (arith, common_steps, e)

-- the blanks that are skipped
pub blanks_of : (s : List ℕ) → IsBlank s (cut class.Blank s).1
blanks_of [] = nothing
blanks_of (b ∷ s) =
    elim (cases_Bool (is_of class.Blank b)) [
      | inl h ↦ rw h (blank h (blanks_of s))
      | inr h ↦ rw h nothing
    ]

pub no_blank : (s : List ℕ) → is_next (is_of class.Blank) (cut class.Blank s).1 ≡ false
no_blank [] = refl
no_blank (b ∷ s) =
    elim (cases_Bool (is_of class.Blank b)) [
      | inl h ↦ rw h (no_blank s)
      | inr h ↦ rw h h
    ]

pub stays : (s : List ℕ) → is_next (is_of class.Blank) s ≡ false → (cut class.Blank s).1 ≡ s
stays [] h = refl
stays (b ∷ s) h = rw h refl

pub skipped : {s r : List ℕ} → IsBlank s r → is_next (is_of class.Blank) r ≡ false → (cut class.Blank s).1 ≡ r
skipped {s} nothing h = stays s h
skipped (blank e more) h = rw e (skipped more h)
