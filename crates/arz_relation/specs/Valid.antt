-- What every bundle has that is executed.
use Rattle.std.specs.Prelude.{ℕ, ◌<◌, ◌≤◌, ◌≡◌, nat_lt, Bool, true, false, All, List, length}
use Rattle.std.specs.Option.{is_some}
use Rattle.arz_json.specs.Tree.{IsWithin}
use Rattle.arz_json.specs.declared.Json.{Json}
use Rattle.arz_json.specs.declared.Json.TheVariants.{Object}
use Rattle.arz_cond.specs.Criteria.{IsRead, criterion_at}
use Rattle.arz_description.specs.Calls.{call_of}
use Rattle.arz_description.specs.Parts.{act_of}
use Rattle.arz_description.specs.declared.parts.Act.{Act}
use Rattle.arz_description.specs.declared.parts.Act.TheVariants as act
use Rattle.arz_description.specs.declared.parts.First.{First}
use Rattle.arz_description.specs.declared.parts.First.TheVariants as first
use Rattle.arz_operation.specs.declared.types.Call.{Call}
use Rattle.arz_operation.specs.declared.types.Call.TheVariants as call
use Rattle.arz_flow.specs.declared.bundle.Bundle.{Bundle}
use Rattle.arz_relation.specs.Documents.{workflows_in, workflow_named, steps_under, index_of, depends_under, step_actions, actions_under, all_criteria}

-- so many steps a workflow may have
abbrev pub steps_limit : ℕ
steps_limit = 256

-- a criterion that can be read
abbrev pub IsCriterion : Json → Type 0
IsCriterion c = IsRead (criterion_at c)

-- ---- what is named is there

abbrev pub has_workflow : Bundle → List ℕ → Bool
has_workflow b id = is_some (workflow_named id b.arazzo)

abbrev pub has_step : List Json → List ℕ → Bool
has_step steps id = nat_lt (index_of id steps) (length steps)

abbrev pub has_called : Bundle → Call → Bool
has_called b (call.Id source id) = true
has_called b (call.At source pointer) = true
has_called b (call.Flow w) = has_workflow b w

abbrev pub has_first : Bundle → List Json → First → Bool
has_first b steps first.Nothing = true
has_first b steps (first.Step id) = has_step steps id
has_first b steps (first.Flow w) = has_workflow b w

-- the step or workflow that an action names, where its workflow has these steps
abbrev pub has_target : Bundle → List Json → Act → Bool
has_target b steps act.End = true
has_target b steps (act.GoStep id) = has_step steps id
has_target b steps (act.GoFlow w) = has_workflow b w
has_target b steps (act.Retry seconds limit before) = has_first b steps before

abbrev pub Lead : Bundle → List Json → (actions : List Json) → Type 0
Lead b steps actions = All (λ a. has_target b steps (act_of a) ≡ true) actions

-- a step names a workflow that is there, if it names one, and so do its actions
pub record IsLinked (b : Bundle) (steps : List Json) (step : Json) : Type 0 where
  pub called : has_called b (call_of step) ≡ true
  pub success : Lead b steps (step_actions b true step)
  pub failure : Lead b steps (step_actions b false step)

-- a workflow has 1 to 256 steps, and what it names is there
pub record IsRunnable (b : Bundle) (w : Json) : Type 0 where
  pub some : 0 < length (steps_under w)
  pub few : length (steps_under w) ≤ steps_limit
  pub depends : All (λ id. has_workflow b id ≡ true) (depends_under w)
  pub steps : All (IsLinked b (steps_under w)) (steps_under w)
  pub success : Lead b (steps_under w) (actions_under b true w)
  pub failure : Lead b (steps_under w) (actions_under b false w)

-- the starting workflow is there, each workflow can be run, each criterion can be read, and all trees nest at most 127 deep
pub record IsValid (b : Bundle) : Type 0 where
  pub starts : has_workflow b b.workflow ≡ true
  pub workflows : All (IsRunnable b) (workflows_in b.arazzo)
  pub criteria : All IsCriterion (all_criteria b)
  pub arazzo : IsWithin 127 b.arazzo
  pub inputs : IsWithin 127 (Object b.inputs)
  pub sources : All (λ s. IsWithin 127 s.root) b.sources
