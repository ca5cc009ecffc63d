-- What is found where a later one takes the place of an earlier one.
use Rattle.std.proofs.Common.{◌≡◌, ℕ, List, [], ◌∷◌, ◌++◌, Bool, true, false, cond, not, filter, reverse, Option, Some, None, refl, sym, ap, ◌∙◌, subst, suc, arith}
use Rattle.std.specs.Prelude.{find, All, IfSome}
use Rattle.std.specs.Borrow.{Bor}
use Rattle.std.specs.Option.{option_copied, option_or}
use Rattle.std.specs.Str.{bytes_eq}
use Rattle.std.proofs.lemmas.List.{reverse-append}
use Rattle.std.proofs.lemmas.List.Folds.{find-append}
use Rattle.std.proofs.lemmas.Option.{same_Some}
use Rattle.std.proofs.lemmas.Slice.Eq.{bytes_eq-Decides}
use Rattle.arz_scope.specs.declared.facts.Completion.{Completion}
use Rattle.arz_scope.specs.declared.facts.Fact.{Fact}
use Rattle.arz_scope.specs.Scopes.{fact_of, with_fact, completion_of, with_completion}
use Rattle.arz_scope.specs.Shallow.{AreDoneShallow, IsShallowCompletion}
use Rattle.arz_scope.specs.Speaking.{completions_after}

module _ {X : Type 0} (key : X → List ℕ) where
  abbrev has : List ℕ → X → Bool
  has k x = bytes_eq (key x) k

  abbrev others : List ℕ → List X → List X
  others k xs = filter (λ x. not (bytes_eq (key x) k)) xs

  -- none of the others has the name
  none-left : (k : List ℕ) (xs : List X) → find (has k) (others k xs) ≡ None
  none-left k [] = refl
  none-left k (x ∷ xs) = by (bytes_eq (key x) k) refl (none-left k xs)
    where
      by : (b : Bool) → bytes_eq (key x) k ≡ b → find (has k) (others k xs) ≡ None → find (has k) (cond (not b) (x ∷ others k xs) (others k xs)) ≡ None
      by true e rest = rest
      by false e rest = ap (λ b. cond b (Some x) (find (has k) (others k xs))) e ∙ rest

  -- the others keep what has another name
  kept : (k other : List ℕ) → bytes_eq other k ≡ false → (xs : List X) → find (has k) (others other xs) ≡ find (has k) xs
  kept k other differ [] = refl
  kept k other differ (x ∷ xs) = by (bytes_eq (key x) other) refl (kept k other differ xs)
    where
      by : (b : Bool) → bytes_eq (key x) other ≡ b → find (has k) (others other xs) ≡ find (has k) xs
          → find (has k) (cond (not b) (x ∷ others other xs) (others other xs)) ≡ cond (bytes_eq (key x) k) (Some x) (find (has k) xs)
      by true e rest =
          let same : key x ≡ other = (bytes_eq-Decides (key x) other).0 e in
          rest ∙ sym (ap (λ n. cond (bytes_eq n k) (Some x) (find (has k) xs)) same ∙ ap (λ b. cond b (Some x) (find (has k) xs)) differ)
      by false e rest = ap (λ o. cond (bytes_eq (key x) k) (Some x) o) rest

  -- the later one, where it has the name, and else what was found before
  pub found-after : (k : List ℕ) (x : X) (xs : List X)
      → find (has k) (others (key x) xs ++ x ∷ []) ≡ cond (bytes_eq (key x) k) (Some x) (find (has k) xs)
  found-after k x xs = find-append (has k) (others (key x) xs) (x ∷ []) ∙ by (bytes_eq (key x) k) refl
    where
      gone : bytes_eq (key x) k ≡ true → find (has k) (others (key x) xs) ≡ None
      gone e = ap (λ n. find (has k) (others n xs)) ((bytes_eq-Decides (key x) k).0 e) ∙ none-left k xs

      ended : (o : Option X) → option_or o None ≡ o
      ended None = refl
      ended (Some y) = refl

      by : (b : Bool) → bytes_eq (key x) k ≡ b
          → option_or (find (has k) (others (key x) xs)) (cond b (Some x) None) ≡ cond b (Some x) (find (has k) xs)
      by true e = ap (λ o. option_or o (Some x)) (gone e)
      by false e = ended (find (has k) (others (key x) xs)) ∙ kept k (key x) e xs

-- a fact of the step takes the place of the earlier one
pub fact-replaced : (step : List ℕ) (fact : Fact) (facts : List Fact) → bytes_eq fact.step step ≡ true → Some fact ≡ fact_of step (with_fact fact facts)
fact-replaced step fact facts e =
    sym (found-after (λ f. f.step) step fact facts ∙ ap (λ b. cond b (Some fact) (fact_of step facts)) e)

-- and one of another step leaves it
pub fact-kept : (step : List ℕ) (fact : Fact) (facts : List Fact) → bytes_eq fact.step step ≡ false → fact_of step facts ≡ fact_of step (with_fact fact facts)
fact-kept step fact facts e =
    sym (found-after (λ f. f.step) step fact facts ∙ ap (λ b. cond b (Some fact) (fact_of step facts)) e)

abbrev newest : List ℕ → List Completion → Option Completion
newest workflow newly = completion_of workflow (reverse newly)

-- the last of the later completions of the workflow, and else the earlier one
completions-after : (workflow : List ℕ) (newly done : List Completion) → completion_of workflow (completions_after newly done) ≡ option_or (newest workflow newly) (completion_of workflow done)
completions-after workflow [] done = refl
completions-after workflow (c ∷ cs) done =
    completions-after workflow cs (with_completion c done)
    ∙ ap (option_or (newest workflow cs)) (found-after (λ c. c.workflow) workflow c done)
    ∙ joined (newest workflow cs) (bytes_eq c.workflow workflow)
    ∙ sym (ap (λ o. option_or o (completion_of workflow done)) (ap (find (λ c. bytes_eq c.workflow workflow)) (reverse-append (c ∷ []) cs) ∙ find-append (λ c. bytes_eq c.workflow workflow) (reverse cs) (c ∷ [])))
  where
    joined : (o : Option Completion) (b : Bool)
        → option_or o (cond b (Some c) (completion_of workflow done)) ≡ option_or (option_or o (cond b (Some c) None)) (completion_of workflow done)
    joined None true = refl
    joined None false = refl
    joined (Some d) b = refl

pub completion-newest : (workflow : List ℕ) (newly done : List Completion) (c : Completion) → Some c ≡ newest workflow newly → Some c ≡ completion_of workflow (completions_after newly done)
completion-newest workflow newly done c e =
    sym (completions-after workflow newly done ∙ ap (λ o. option_or o (completion_of workflow done)) (sym e))

pub completion-before : (workflow : List ℕ) (newly done : List Completion) → None ≡ newest workflow newly → completion_of workflow done ≡ completion_of workflow (completions_after newly done)
completion-before workflow newly done e =
    sym (completions-after workflow newly done ∙ ap (λ o. option_or o (completion_of workflow done)) (sym e))

-- ---- what is found has what all have

module _ {X : Type 0} (p : X → Bool) (P : X → Type 0) where
  abbrev Has : Option X → Type 0
  Has o = (y : X) → o ≡ Some y → P y

  first-has : (b : Bool) (x : X) (o : Option X) → P x → Has o → Has (cond b (Some x) o)
  first-has true x o here rest = λ y e. subst P (same_Some x y e) here
  first-has false x o here rest = rest

  either-has : (o r : Option X) → Has o → Has r → Has (option_or o r)
  either-has None r a b = b
  either-has (Some x) r a b = a

  found-has : (xs : List X) → All P xs → Has (find p xs)
  found-has [] all = λ y e. absurd (cc)
  found-has (x ∷ xs) all =
      first-has (p x) x (find p xs) (all 0 x (omega arith)) (found-has xs (λ i d lt. all (suc i) d (omega (arith, lt))))

  last-has : (xs : List X) → All P xs → Has (find p (reverse xs))
  last-has [] all = λ y e. absurd (cc)
  last-has (x ∷ xs) all =
      let last : Has (find p (x ∷ [])) = first-has (p x) x None (all 0 x (omega arith)) (λ y e. absurd (cc)) in
      subst Has (sym (ap (find p) (reverse-append (x ∷ []) xs) ∙ find-append p (reverse xs) (x ∷ [])))
      (either-has (find p (reverse xs)) (find p (x ∷ [])) (last-has xs (λ i d lt. all (suc i) d (omega (arith, lt)))) last)

pub completion-shallow : (workflow : List ℕ) (done : List Completion) (r : Option (Bor Completion)) → option_copied r ≡ completion_of workflow done → AreDoneShallow done → IfSome r (λ c. IsShallowCompletion c.now)
completion-shallow workflow done None e all = tt
completion-shallow workflow done (Some c) e all = found-has (λ c. bytes_eq c.workflow workflow) IsShallowCompletion done all c.now (sym e)

pub newest-shallow : (workflow : List ℕ) (newly : List Completion) (c : Completion) → Some c ≡ completion_of workflow (reverse newly) → AreDoneShallow newly → IsShallowCompletion c
newest-shallow workflow newly c e all = last-has (λ c. bytes_eq c.workflow workflow) IsShallowCompletion newly all c (sym e)
