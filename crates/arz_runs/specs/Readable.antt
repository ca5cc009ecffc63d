-- Bundles whose criteria can be read, as a fact that has one proof.
use Rattle.std.specs.Prelude.{◌≡◌, ◌&&◌, Bool, true, All, List}
use Rattle.std.specs.List.{list_all}
use Rattle.std.specs.Option.{is_none}
use Rattle.arz_json.specs.Tree.{IsWithin}
use Rattle.arz_json.specs.declared.Json.TheVariants.{Object}
use Rattle.arz_cond.specs.Criteria.{Criterion, criterion_at}
use Rattle.arz_cond.specs.Outcomes.{can_be_read, fault_in}
use Rattle.arz_actions.specs.declared.ready.Ready.{Ready}
use Rattle.arz_flow.specs.declared.bundle.Bundle.{Bundle}
use Rattle.arz_relation.specs.Documents.{workflows_in, all_criteria}
use Rattle.arz_relation.specs.Valid.{IsRunnable, has_workflow}

-- a criterion that can be read
abbrev pub is_readable : Criterion → Bool
is_readable c = can_be_read c && is_none (fault_in c)

abbrev pub are_readable : List Criterion → Bool
are_readable criteria = list_all is_readable criteria

-- an action whose criteria can be read
abbrev pub is_tryable : Ready → Bool
is_tryable a = are_readable a.criteria

abbrev pub are_tryable : List Ready → Bool
are_tryable actions = list_all is_tryable actions

-- a valid bundle
pub record IsSound (b : Bundle) : Type 0 where
  pub starts : has_workflow b b.workflow ≡ true
  pub workflows : All (IsRunnable b) (workflows_in b.arazzo)
  pub criteria : All (λ c. is_readable (criterion_at c) ≡ true) (all_criteria b)
  pub arazzo : IsWithin 127 b.arazzo
  pub inputs : IsWithin 127 (Object b.inputs)
  pub sources : All (λ s. IsWithin 127 s.root) b.sources
