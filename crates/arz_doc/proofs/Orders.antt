-- The first failure of rows of rules.
use Rattle.std.proofs.Common.{◌≡◌, ℕ, List, [], ◌∷◌, ◌++◌, Option, Some, None, refl, ap, sym, ◌∙◌}
use Rattle.arz_json.specs.declared.place.Token.{Token}
use Rattle.arz_rules.specs.Place.{least}
use Rattle.arz_rules.specs.Phases.{Rule, Failure, failure_or, first_failure}

abbrev pub or_later : Option Failure → Option Failure → Option Failure
or_later None later = later
or_later (Some f) later = Some f

moved : (rule : ℕ) (o : Option (List Token)) (a b : Option Failure) → failure_or rule o (or_later a b) ≡ or_later (failure_or rule o a) b
moved rule None a b = refl
moved rule (Some p) a b = refl

pub first-append : (rs ss : List Rule) → first_failure (rs ++ ss) ≡ or_later (first_failure rs) (first_failure ss)
first-append [] ss = refl
first-append (r ∷ rs) ss = ap (failure_or r.0 (least r.1)) (first-append rs ss) ∙ moved r.0 (least r.1) (first_failure rs) (first_failure ss)

-- a failure of the rules that come first, and one of those that come later
pub of_first : (rs ss : List Rule) (f : Failure) → Some f ≡ first_failure rs → Some f ≡ first_failure (rs ++ ss)
of_first rs ss f e = ap (λ (o : Option Failure). or_later o (first_failure ss)) e ∙ sym (first-append rs ss)

pub of_later : (rs ss : List Rule) (r : Option Failure) → None ≡ first_failure rs → r ≡ first_failure ss → r ≡ first_failure (rs ++ ss)
of_later rs ss r e f = f ∙ ap (λ (o : Option Failure). or_later o (first_failure ss)) e ∙ sym (first-append rs ss)
