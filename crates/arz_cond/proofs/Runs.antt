-- Runs of bytes of one kind.
use Rattle.std.proofs.Common.{◌≡◌, inl, inr, ℕ, zero, suc, ◌<◌, ◌≤◌, Bool, true, false, cond, Some, None, List, [], ◌∷◌, ◌++◌, length, get_or, take, drop, refl, sym, ap, ◌∙◌, arith}
use Rattle.std.specs.List.{list_all}
use Rattle.std.specs.Char.{is_ascii_digit}
use Rattle.std.proofs.lemmas.Bool.{cases_Bool, and_parts}
use Rattle.arz_query.specs.Lexical.{cut, is_of, is_next, after_byte}
use Rattle.arz_query.specs.Words.{chosen}
use Rattle.arz_query.specs.Numbers.{whole_at, whole_of, digits_at}
use Rattle.arz_cond.specs.Grammar.{run}

pub run-front : (test : ℕ → Bool) (front rest : List ℕ) → list_all test front ≡ true → is_next test rest ≡ false → run test (front ++ rest) ≡ (front, rest)
run-front test [] [] all stop = refl
run-front test [] (b ∷ rest) all stop = rw stop refl
run-front test (b ∷ front) rest all stop =
    let parts = and_parts (test b) (list_all test front) all in
    rw parts.0 (ap (λ p. (b ∷ p.0, p.1)) (run-front test front rest parts.1 stop))

begins-drop : (test : ℕ → Bool) (s : List ℕ) (i : ℕ) → (i < length s → test (get_or s i 0) ≡ false) → is_next test (drop i s) ≡ false
begins-drop test [] zero h = refl
begins-drop test [] (suc i) h = refl
begins-drop test (b ∷ s) zero h = h (omega arith)
begins-drop test (b ∷ s) (suc i) h = begins-drop test s i (λ lt. h (omega arith))

take-drop : (s : List ℕ) (i : ℕ) → s ≡ take i s ++ drop i s
take-drop [] zero = refl
take-drop [] (suc i) = refl
take-drop (b ∷ s) zero = refl
take-drop (b ∷ s) (suc i) = ap (λ t. b ∷ t) (take-drop s i)

-- the run ends where the loop stops
pub run-at : (test : ℕ → Bool) (s : List ℕ) (i : ℕ) → list_all test (take i s) ≡ true → (i < length s → test (get_or s i 0) ≡ false) → run test s ≡ (take i s, drop i s)
run-at test s i all stop = ap (run test) (take-drop s i) ∙ run-front test (take i s) (drop i s) all (begins-drop test s i stop)

-- what follows a run is no longer than the text
pub run-shorter : (test : ℕ → Bool) (s : List ℕ) → length (run test s).1 ≤ length s
run-shorter test [] = omega arith
run-shorter test (b ∷ s) =
    elim (cases_Bool (test b)) [
      | inl h ↦ rw h (omega (arith, run-shorter test s))
      | inr h ↦ rw h (omega arith)
    ]

-- a run that isn't empty begins its text
pub run-begins : (test : ℕ → Bool) (s r ds : List ℕ) (d : ℕ) → run test s ≡ (d ∷ ds, r) → is_next test s ≡ true
run-begins test [] r ds d e = let none : let l : List ℕ = [] in l ≡ d ∷ ds = ap (λ (p : List ℕ × List ℕ). p.0) e in absurd cc
run-begins test (b ∷ s) r ds d e =
    elim (cases_Bool (test b)) [
      | inl h ↦ h
      | inr h ↦
          let none : let l : List ℕ = [] in l ≡ d ∷ ds =
          ap (λ (t : Bool). (cond {A = List ℕ × List ℕ} t (b ∷ (run test s).0, (run test s).1) ([], b ∷ s)).0) (sym h) ∙ ap (λ (p : List ℕ × List ℕ). p.0) e in
          absurd cc
    ]

-- runs of queries are such runs
pub cut_run : (c : _) (s : List ℕ) → cut c s ≡ run (is_of c) s
cut_run c [] = refl
cut_run c (b ∷ s) =
    elim (cases_Bool (is_of c b)) [
      | inl h ↦ rw h (ap (λ p. (b ∷ p.0, p.1)) (cut_run c s))
      | inr h ↦ rw h refl
    ]

pub whole_run : (s : List ℕ) → whole_at true s ≡ chosen (after_byte 45 s) (λ t. whole_of true true (run is_ascii_digit t)) (whole_of true false (run is_ascii_digit s))
unfolding whole_at
whole_run s = simp cut_run

pub digits_run : (s : List ℕ) → digits_at s ≡ cond (is_next is_ascii_digit s) (Some (run is_ascii_digit s).1) None
digits_run s = simp cut_run
