-- The workflows of a bundle that are read, by their workflowIds.
use Rattle.std.specs.Prelude.{ℕ, ◌≡◌, List, false, Option, None}
use Rattle.std.specs.Option.{option_copied, is_some, ForSome}
use Rattle.std.specs.Borrow.{Bor}
use Rattle.std.specs.BTreeMap.{BTreeMap, get_by}
use Rattle.std.specs.Cmp.Lexicographic.{slice_cmp}
use Rattle.std.specs.Ordering.{nat_cmp}
use Rattle.arz_relation.specs.Documents.{workflow_named}
use Rattle.arz_flow.specs.declared.bundle.Bundle.{Bundle}
use Rattle.arz_runs.specs.Planned.{IsPlan}
use Rattle.arz_runs.specs.declared.plans.Plan.{Plan}

-- what is found for a workflowId: the plan of its workflow, or nothing where there is none
pub record IsFound (b : Bundle) (id : List ℕ) (found : Option Plan) : Type 0 where
  pub there : ForSome found (IsPlan b id)
  pub none : found ≡ None → is_some (workflow_named id b.arazzo) ≡ false

abbrev pub IsFoundAs : Bundle → (id : List ℕ) → Option (Bor Plan) → Type 0
IsFoundAs b id found = IsFound b id (option_copied found)

abbrev pub IsPlannedAs : Bundle → BTreeMap (Bor (List ℕ)) Plan → Type 0
IsPlannedAs b plans = (id : List ℕ) → IsFound b id (get_by (λ k. slice_cmp nat_cmp id k.now) plans)
