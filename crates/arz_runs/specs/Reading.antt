-- ---- for private clauses: workflows and their steps as they are read, by the components and by what is called
use Rattle.std.specs.Prelude.{ℕ, ◌≡◌, ◌||◌, All, List, map, length, codes, Bool, Option, Some, None, find}
use Rattle.std.specs.Option.{is_some}
use Rattle.std.specs.Borrow.{Bor}
use Rattle.std.specs.BTreeMap.{BTreeMap, get_by}
use Rattle.std.specs.Cmp.Lexicographic.{slice_cmp}
use Rattle.std.specs.Ordering.{nat_cmp}
use Rattle.arz_json.specs.declared.Json.{Json}
use Rattle.arz_operation.specs.declared.types.Call.{Call}
use Rattle.arz_operation.specs.declared.types.Call.TheVariants as call
use Rattle.arz_components.specs.Described.{Components}
use Rattle.arz_components.specs.Texts.{text_named}
use Rattle.arz_components.specs.declared.components.Part.{Part}
use Rattle.arz_components.specs.declared.components.Part.TheVariants.{SuccessActions, FailureActions}
use Rattle.arz_cond.specs.Criteria.{criterion_at}
use Rattle.arz_openapi.specs.Targets.{Targets}
use Rattle.arz_description.specs.Calls.{call_of}
use Rattle.arz_description.specs.Parts.{meant}
use Rattle.arz_description.specs.Requests.{body_of, givens_of}
use Rattle.arz_relation.specs.Documents.{items_at, steps_under, criteria_of, index_of, is_workflow}
use Rattle.arz_relation.specs.Valid.{IsCriterion}
use Rattle.arz_actions.specs.Ready.{IsTryable, ready_of, readies, joined_actions}
use Rattle.arz_actions.specs.declared.ready.Ready.{Ready}
use Rattle.arz_runs.specs.Joining.{joined_of}
use Rattle.arz_runs.specs.Planned.{index_in, steps_in_plan}
use Rattle.arz_runs.specs.Reached.{called_as}
use Rattle.arz_runs.specs.declared.plans.Calls.{Calls}
use Rattle.arz_runs.specs.declared.plans.Calls.TheVariants.{Operation, Workflow}
use Rattle.arz_runs.specs.declared.plans.Flow.{Flow}
use Rattle.arz_runs.specs.declared.plans.Planned.{Planned}
use Rattle.arz_runs.specs.declared.plans.Plan.{Plan}

-- the actions under a name, with components in the place of the reusable objects that refer to them
abbrev pub meant_at : Components → Part → (name : List ℕ) → Json → List Json
meant_at component part name j = map (meant component part) (items_at name j)

abbrev pub ready_at : Components → Part → (name : List ℕ) → Json → List Ready
ready_at component part name j = map ready_of (meant_at component part name j)

-- ---- what can be read

pub record IsReadableStep (component : Components) (step : Json) : Type 0 where
  pub criteria : All IsCriterion (criteria_of step)
  pub success : All IsTryable (meant_at component SuccessActions (codes "onSuccess") step)
  pub failure : All IsTryable (meant_at component FailureActions (codes "onFailure") step)

pub record IsReadableFlow (component : Components) (workflow : Json) : Type 0 where
  pub steps : All (IsReadableStep component) (steps_under workflow)
  pub success : All IsTryable (meant_at component SuccessActions (codes "successActions") workflow)
  pub failure : All IsTryable (meant_at component FailureActions (codes "failureActions") workflow)

-- ---- a step

-- whether a step calls an operation
abbrev pub is_operation : (step : Json) → Bool
is_operation step = is_some (text_named (codes "operationId") step) || is_some (text_named (codes "operationPath") step)

abbrev pub operation_as : Components → Targets → (workflow step : Json) → Calls
operation_as component targets w step = Operation (called_as targets step) (joined_of component (Some w) step) (body_of step)

abbrev pub calls_as : Components → Targets → (workflow step : Json) → Call → Calls
calls_as component targets w step (call.Id source id) = operation_as component targets w step
calls_as component targets w step (call.At source pointer) = operation_as component targets w step
calls_as component targets w step (call.Flow id) = Workflow id (givens_of component step)

pub record IsReadStep (component : Components) (targets : Targets) (w : Json) (p : Planned) : Type 0 where
  pub calls : p.calls ≡ calls_as component targets w p.step.now (call_of p.step.now)
  pub tests : p.tests ≡ map criterion_at (criteria_of p.step.now)
  pub success : readies p.success ≡ joined_actions (ready_at component SuccessActions (codes "onSuccess") p.step.now) (ready_at component SuccessActions (codes "successActions") w)
  pub failure : readies p.failure ≡ joined_actions (ready_at component FailureActions (codes "onFailure") p.step.now) (ready_at component FailureActions (codes "failureActions") w)

-- ---- a workflow

-- its actions are read
pub record HasActions (component : Components) (f : Flow) : Type 0 where
  pub success : readies f.success ≡ ready_at component SuccessActions (codes "successActions") f.workflow.now
  pub failure : readies f.failure ≡ ready_at component FailureActions (codes "failureActions") f.workflow.now

pub record IsReadFlow (component : Components) (targets : Targets) (w : Json) (p : Plan) : Type 0 where
  pub workflow : p.workflow.now ≡ w
  pub steps : steps_in_plan p ≡ steps_under w
  pub each : All (IsReadStep component targets w) p.steps.items
  pub indexes : (q : List ℕ) → index_in p.indexes (length p.steps.items) q ≡ index_of q (steps_under w)

-- what is found where a workflow is, or none
abbrev pub IsReadIf : Components → Targets → Option Json → Option Plan → Type 0
IsReadIf component targets None None = Unit {0}
IsReadIf component targets None (Some p) = ⊥
IsReadIf component targets (Some w) None = ⊥
IsReadIf component targets (Some w) (Some p) = IsReadFlow component targets w p

abbrev pub AreRead : Components → Targets → (workflows : List Json) → BTreeMap (Bor (List ℕ)) Plan → Type 0
AreRead component targets workflows plans =
    (id : List ℕ) → IsReadIf component targets (find (is_workflow id) workflows) (get_by (λ k. slice_cmp nat_cmp id k.now) plans)
