-- Whether an attempt succeeded (Arazzo 1.0.1, 4.6.5.1: successCriteria; 4.6.11).
use Rattle.std.specs.Prelude.{Bool, List, [], ◌∷◌, Option}
use Rattle.std.specs.List.{list_any}
use Rattle.arz_json.specs.declared.Json.{Json}
use Rattle.arz_expr.specs.declared.syntax.Base.{Base}
use Rattle.arz_path.specs.Outcome.{Outcome, given}
pub use Rattle.arz_cond.specs.Outcomes.{Patterned}
use Rattle.arz_flow.specs.declared.bundle.Bundle.{Bundle}
pub use Rattle.arz_flow.specs.Verdicts.{is_success, all_hold, is_patterned}
use Rattle.arz_relation.specs.Documents.{all_criteria}

-- whether an attempt succeeded, where `found` gives what the expressions of its criteria speak of, and `plain` says whether it
-- succeeded without criteria
abbrev pub verdict : Patterned → (Base → Option Json) → (plain : Bool) → List Json → Outcome Bool
verdict told found plain [] = given plain
verdict told found plain (c ∷ cs) = all_hold told found (c ∷ cs)

-- ---- whether any criterion that may be tried is of another type than `simple`

abbrev pub asks_patterns : Bundle → Bool
asks_patterns b = list_any is_patterned (all_criteria b)
