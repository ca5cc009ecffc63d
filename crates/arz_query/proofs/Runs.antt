-- Runs of bytes of one kind.
use Rattle.std.proofs.Common.{◌≡◌, inl, inr, ℕ, zero, suc, ◌<◌, true, false, List, [], ◌∷◌, ◌++◌, length, get_or, take, drop, refl, ap, ◌∙◌, arith}
use Rattle.std.specs.List.{list_all}
use Rattle.std.proofs.lemmas.Bool.{cases_Bool, and_parts}
use Rattle.arz_query.specs.Lexical.{is_of, cut, is_next}
use Rattle.arz_query.specs.declared.words.Class.{Class}

pub cut-whole : (c : Class) (s : List ℕ) → s ≡ (cut c s).0 ++ (cut c s).1
cut-whole c [] = refl
cut-whole c (b ∷ s) =
    elim (cases_Bool (is_of c b)) [
      | inl h ↦ rw h (ap (λ t. b ∷ t) (cut-whole c s))
      | inr h ↦ rw h refl
    ]

pub cut-passes : (c : Class) (s : List ℕ) → list_all (is_of c) (cut c s).0 ≡ true
cut-passes c [] = refl
cut-passes c (b ∷ s) =
    elim (cases_Bool (is_of c b)) [
      | inl h ↦ simp h (cut-passes c s)
      | inr h ↦ rw h refl
    ]

pub cut-front : (c : Class) (front rest : List ℕ) → list_all (is_of c) front ≡ true → is_next (is_of c) rest ≡ false → cut c (front ++ rest) ≡ (front, rest)
cut-front c [] [] all stop = refl
cut-front c [] (b ∷ rest) all stop = rw stop refl
cut-front c (b ∷ front) rest all stop =
    let parts = and_parts (is_of c b) (list_all (is_of c) front) all in
    rw parts.0 (ap (λ p. (b ∷ p.0, p.1)) (cut-front c front rest parts.1 stop))

begins-drop : (c : Class) (s : List ℕ) (i : ℕ) → (i < length s → is_of c (get_or s i 0) ≡ false) → is_next (is_of c) (drop i s) ≡ false
begins-drop c [] zero h = refl
begins-drop c [] (suc i) h = refl
begins-drop c (b ∷ s) zero h = h (omega arith)
begins-drop c (b ∷ s) (suc i) h = begins-drop c s i (λ lt. h (omega arith))

take-drop : (s : List ℕ) (i : ℕ) → s ≡ take i s ++ drop i s
take-drop [] zero = refl
take-drop [] (suc i) = refl
take-drop (b ∷ s) zero = refl
take-drop (b ∷ s) (suc i) = ap (λ t. b ∷ t) (take-drop s i)

-- the run ends where the loop stops
pub cut-at : (c : Class) (s : List ℕ) (i : ℕ) → list_all (is_of c) (take i s) ≡ true → (i < length s → is_of c (get_or s i 0) ≡ false) → cut c s ≡ (take i s, drop i s)
cut-at c s i all stop = ap (cut c) (take-drop s i) ∙ cut-front c (take i s) (drop i s) all (begins-drop c s i stop)
