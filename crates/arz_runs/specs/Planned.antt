-- What is read once of a workflow and of its steps.
use Rattle.std.specs.Prelude.{ℕ, ◌≡◌, All, List, [], ◌∷◌, map, length, true, false, Bool, Option, Some, None, unwrap_or, slice_get}
use Rattle.std.specs.Borrow.{Bor}
use Rattle.std.specs.BTreeMap.{BTreeMap, get_by}
use Rattle.std.specs.Cmp.Lexicographic.{slice_cmp}
use Rattle.std.specs.Option.{option_to_list}
use Rattle.std.specs.Ordering.{nat_cmp}
use Rattle.arz_json.specs.declared.Json.{Json}
use Rattle.arz_json.specs.declared.Member.{Member}
use Rattle.arz_expr.specs.declared.syntax.Base.{Base}
use Rattle.arz_expr.specs.declared.template.Given.{Given}
use Rattle.arz_operation.specs.declared.types.Call.{Call}
use Rattle.arz_operation.specs.declared.types.Call.TheVariants as call
use Rattle.arz_cond.specs.Criteria.{criterion_at}
use Rattle.arz_runs.specs.Readable.{are_readable, are_tryable}
use Rattle.arz_actions.specs.Ready.{ready_of, readies}
use Rattle.arz_description.specs.Calls.{call_of}
use Rattle.arz_description.specs.Requests.{body_of}
use Rattle.arz_relation.specs.Documents.{workflow_named, steps_under, criteria_of, index_of, joined_actions, step_actions, actions_under}
use Rattle.arz_flow.specs.Requests.{endpoint_of, given_to, parameters_of}
use Rattle.arz_relation.specs.Requests.{all_filled, in_order, member_of}
use Rattle.arz_request.specs.Causes.{Made, made_of}
use Rattle.arz_runs.specs.Runs.{step_at}
use Rattle.arz_flow.specs.declared.bundle.Bundle.{Bundle}
use Rattle.arz_runs.specs.declared.plans.Calls.{Calls}
use Rattle.arz_runs.specs.declared.plans.Calls.TheVariants.{Operation, Workflow}
use Rattle.arz_runs.specs.declared.plans.Planned.{Planned}
use Rattle.arz_runs.specs.declared.plans.Plan.{Plan}

-- what a step of a workflow calls, and with what
abbrev pub calls_by : Bundle → (workflow step : Json) → Call → Calls
calls_by b w step (call.Id source id) = Operation (endpoint_of b step) (given_to b (Some w) step) (body_of step)
calls_by b w step (call.At source pointer) = Operation (endpoint_of b step) (given_to b (Some w) step) (body_of step)
calls_by b w step (call.Flow id) = Workflow id (parameters_of b step)

abbrev pub calls_of : Bundle → (workflow step : Json) → Calls
calls_of b w step = calls_by b w step (call_of step)

-- the actions of a step of a workflow after its success, or after its failure, as raw objects
abbrev pub raw_actions : Bundle → (workflow step : Json) → (ok : Bool) → List Json
raw_actions b w step ok = joined_actions (step_actions b ok step) (actions_under b ok w)

-- what is read of a step of a workflow
pub record IsPlanned (b : Bundle) (w : Json) (p : Planned) : Type 0 where
  pub calls : p.calls ≡ calls_of b w p.step.now
  pub tests : p.tests ≡ map criterion_at (criteria_of p.step.now)
  pub success : readies p.success ≡ map ready_of (raw_actions b w p.step.now true)
  pub failure : readies p.failure ≡ map ready_of (raw_actions b w p.step.now false)
  pub tests_read : are_readable p.tests ≡ true
  pub success_read : are_tryable (readies p.success) ≡ true
  pub failure_read : are_tryable (readies p.failure) ≡ true

-- the index that is found for a stepId; that behind the last where there is none
abbrev pub index_in : BTreeMap (Bor (List ℕ)) ℕ → (count : ℕ) → List ℕ → ℕ
index_in m count id = unwrap_or (get_by (λ k. slice_cmp nat_cmp id k.now) m) count

abbrev pub steps_in_plan : Plan → List Json
steps_in_plan p = map (λ s. s.step.now) p.steps.items

-- what is read of the workflow with this workflowId
pub record IsPlan (b : Bundle) (id : List ℕ) (p : Plan) : Type 0 where
  pub named : option_to_list (workflow_named id b.arazzo) ≡ p.workflow.now ∷ []
  pub steps : steps_in_plan p ≡ steps_under p.workflow.now
  pub each : All (IsPlanned b p.workflow.now) p.steps.items
  pub indexes : (q : List ℕ) → index_in p.indexes (length p.steps.items) q ≡ index_of q (steps_under p.workflow.now)

-- a step of the workflow with this workflowId, as it is read, and its place there
pub record IsStep (b : Bundle) (id : List ℕ) (p : Planned) : Type 0 where
  pub workflow : Json
  pub named : workflow_named id b.arazzo ≡ Some workflow
  pub planned : IsPlanned b workflow p
  pub place : ℕ
  pub at : slice_get (steps_under workflow) place ≡ Some p.step.now

-- what is found at an index: the step there as it is read, or nothing where there is none
abbrev pub IsStepAt : Bundle → (id : List ℕ) → (index : ℕ) → Option Planned → Type 0
IsStepAt b id i None = step_at b id i ≡ None
IsStepAt b id i (Some p) = (step_at b id i ≡ Some p.step.now) × IsStep b id p

-- the inputs that parameters give, with the values of their expressions
abbrev pub inputs_by : (Base → Option Json) → List Given → Made (List Member)
inputs_by found given = made_of (λ es. map member_of (in_order es [])) (all_filled found given)
