-- The workflow relation, case by case, over the raw documents (Arazzo 1.0.1, 4.6.4, 4.6.5, 4.6.7 and 4.6.8), where `told` is what
-- is told of patterns.
use Rattle.std.specs.Prelude.{ℕ, ◌+◌, ◌==◌, ◌||◌, if◌then◌else◌, Bool, true, false, List, [], ◌∷◌, slice_get}
use Rattle.std.specs.List.{list_any}
use Rattle.std.specs.Str.{bytes_eq}
use Rattle.std.specs.declared.option.Option.{Option}
use Rattle.std.specs.declared.option.Option.TheVariants.{None, Some}
use Rattle.std.specs.declared.result.Result.TheVariants.{Ok, Err}
use Rattle.arz_json.specs.declared.Json.{Json}
use Rattle.arz_json.specs.declared.Member.{Member}
use Rattle.arz_world.specs.declared.Reply.{Reply}
use Rattle.arz_world.specs.declared.Request.{Request}
use Rattle.arz_expr.specs.declared.syntax.Base.{Base}
use Rattle.arz_operation.specs.declared.types.Call.{Call}
use Rattle.arz_operation.specs.declared.types.Call.TheVariants as call
use Rattle.arz_description.specs.Calls.{call_of}
use Rattle.arz_description.specs.Parts.{act_of}
use Rattle.arz_description.specs.declared.parts.Act.{Act}
use Rattle.arz_description.specs.declared.parts.Act.TheVariants as act
use Rattle.arz_description.specs.declared.parts.First.{First}
use Rattle.arz_description.specs.declared.parts.First.TheVariants as first
use Rattle.arz_path.specs.Outcome.{Outcome, given, wide, untold, and_then}
use Rattle.arz_request.specs.Causes.{Made}
use Rattle.arz_request.specs.declared.cause.Cause.TheVariants.{TooWide}
use Rattle.arz_scope.specs.declared.facts.Completion.{Completion}
use Rattle.arz_scope.specs.declared.facts.Fact.{Fact}
use Rattle.arz_scope.specs.Outputs.{outputs_of}
use Rattle.arz_scope.specs.Scopes.{Surroundings, Attempt, Nothing, Exchange, Inner, with_fact, found}
use Rattle.arz_flow.specs.declared.answers.Spot.{Spot}
use Rattle.arz_flow.specs.declared.bundle.Bundle.{Bundle}
use Rattle.arz_relation.specs.declared.retries.Count.{Count}
use Rattle.arz_relation.specs.Documents.{workflow_named, steps_of, step_id, index_of, depends_of, criteria_of, actions_at, action_name, criteria_in}
use Rattle.arz_relation.specs.Play.{Result, Completed, Broke, NoStep, Untold, Stuck, TooDeep, Budget, Seen, sends_in, Script, Give, Stops, Sends, Waits, Plays, Records}
use Rattle.arz_relation.specs.Requests.{request_of, inputs_of}
use Rattle.arz_relation.specs.Retries.{is_used_up, once_more, delay_after}
use Rattle.arz_relation.specs.Verdicts.{Patterned, all_hold, verdict, is_success}

-- where a run stands: its workflow, its inputs, how many runs are open with it, and the last fact of each of its steps
pub record Run : Type 0 where
  pub workflow : List ℕ
  pub inputs : List Member
  pub depth : ℕ
  pub facts : List Fact

-- so many runs may be open at once
abbrev pub deepest : ℕ
deepest = 32

-- the cases
pub data Case : Type 0 where
  -- a run of a workflow, entered at a place
  Runs : (workflow : List ℕ) → (inputs : List Member) → (depth : ℕ) → Spot → Case
  -- a dependency of the workflow, and those after it
  Depends : Run → (workflow : List ℕ) → (others : List (List ℕ)) → Case
  -- an attempt of a step, and what is done after it
  Enters : Run → (step : ℕ) → List Count → Case
  -- no action is taken, after an attempt that succeeded or failed
  Goes_on : Run → (step : ℕ) → Bool → Case
  -- the action `end`, and `goto` of a step
  Ends_run : Run → Bool → Case
  Goes_to : Run → (step : ℕ) → Case
  -- `goto` of a workflow, from a place
  Goes_over : Run → (workflow : List ℕ) → Spot → Case
  -- `retry` of a step at a place, after a delay, and after what goes first
  Retries : Run → (step : ℕ) → Spot → List Count → (seconds : ℕ) → First → Case
  -- the run is over
  Closes : Run → Bool → Case

-- what follows another case: its result is the result
abbrev pub give : Result → Seen → Script Case
give r seen = Give r

-- ---- where a run stands

-- a run before its first step
abbrev pub begun : (workflow : List ℕ) → List Member → (depth : ℕ) → Run
begun w inputs depth = record { workflow = w; inputs = inputs; depth = depth; facts = [] }

-- what a run's expressions speak of
abbrev pub surroundings : Bundle → Run → List Completion → Surroundings
surroundings b r done = record { description = b.arazzo; inputs = r.inputs; facts = r.facts; done = done }

-- the value of each base in a run, and in an attempt
abbrev pub spoken_of : Bundle → Run → List Completion → Attempt → Base → Option Json
spoken_of b r done own = found (surroundings b r done) own

abbrev pub spot : Run → (step : Json) → Spot
spot r step = record { workflow = r.workflow; step = Some (step_id step) }

-- the place of a workflow's dependencies
abbrev pub spot_before : Run → Spot
spot_before r = record { workflow = r.workflow; step = None }

-- ---- what can't be told, or made, or isn't there

-- a step that is there; a valid bundle has each step that is entered
abbrev pub with_step : Option Json → (Json → Script Case) → Script Case
with_step None k = Stops NoStep
with_step (Some step) k = k step

-- what can be made; otherwise everything ends at the place
abbrev pub with_made : {A : Type 0} → Made A → Spot → (A → Script Case) → Script Case
with_made (Ok x) at k = k x
with_made (Err cause) at k = Stops (Stuck cause at)

-- what criteria come to, where that can be said; a selection that is too wide ends everything at the place
abbrev pub with_outcome : {A : Type 0} → Outcome A → Spot → (A → Script Case) → Script Case
with_outcome (given x) at k = k x
with_outcome wide at k = Stops (Stuck TooWide at)
with_outcome untold at k = Stops Untold

-- where as many requests were sent as may be, everything ends before the next
abbrev pub within_budget : Bundle → Seen → Script Case → Script Case
within_budget b seen next = if sends_in seen.asked == b.max_attempts then Stops (Budget b.max_attempts) else next

-- ---- an attempt of a step (4.6.5)

-- an attempt that was made: whether it succeeded, its run with its fact, and what it has of its own
pub record Tried : Type 0 where
  pub ok : Bool
  pub run : Run
  pub own : Attempt

-- the fact of an attempt: the step's outputs, which may speak of what it has of its own
abbrev pub new_fact : Bundle → Run → List Completion → (step : Json) → Attempt → Fact
new_fact b r done step own = record { step = step_id step; outputs = outputs_of (spoken_of b r done own) step }

abbrev pub and_fact : Run → Fact → Run
and_fact r fact = record { workflow = r.workflow; inputs = r.inputs; depth = r.depth; facts = with_fact fact r.facts }

abbrev pub tried : Bundle → Run → List Completion → (step : Json) → Attempt → Bool → Tried
tried b r done step own ok = record { ok = ok; run = and_fact r (new_fact b r done step own); own = own }

-- the criteria are tried, and then the fact is made; `plain` says whether it succeeded without criteria
abbrev pub judged : Patterned → Bundle → Run → (step : Json) → Attempt → (plain : Bool) → (Tried → Seen → Script Case) → Seen → Script Case
judged told b r step own plain k seen =
    with_outcome (verdict told (spoken_of b r seen.done own) plain (criteria_of step)) (spot r step) (λ ok.
    k (tried b r seen.done step own ok) seen)

abbrev pub after_reply : Patterned → Bundle → Run → (step : Json) → Request → (Tried → Seen → Script Case) → Reply → Seen → Script Case
after_reply told b r step q k y seen = judged told b r step (Exchange q y) (is_success y) k seen

-- of an operation step: its request is made, and sent where one more may be, and one reply is taken
abbrev pub attempt_operation : Patterned → Bundle → Run → (step : Json) → Seen → (Tried → Seen → Script Case) → Script Case
attempt_operation told b r step seen k =
    with_made (request_of b (spoken_of b r seen.done Nothing) (workflow_named r.workflow b.arazzo) step) (spot r step) (λ q.
    within_budget b seen (Sends q (after_reply told b r step q k)))

abbrev pub outputs_in : Result → List Member
outputs_in (Completed outputs) = outputs
outputs_in (Broke outputs) = outputs

abbrev pub is_completed : Result → Bool
is_completed (Completed outputs) = true
is_completed (Broke outputs) = false

abbrev pub after_inner : Patterned → Bundle → Run → (step : Json) → (Tried → Seen → Script Case) → Result → Seen → Script Case
after_inner told b r step k o seen = judged told b r step (Inner (outputs_in o)) (is_completed o) k seen

-- of a workflow step: its parameters are the inputs of a run one deeper
abbrev pub attempt_workflow : Patterned → Bundle → Run → (step : Json) → (workflow : List ℕ) → Seen → (Tried → Seen → Script Case) → Script Case
attempt_workflow told b r step w seen k =
    with_made (inputs_of b (spoken_of b r seen.done Nothing) step) (spot r step) (λ inputs.
    Plays (Runs w inputs (r.depth + 1) (spot r step)) (after_inner told b r step k))

abbrev pub attempt_by : Call → Patterned → Bundle → Run → (step : Json) → Seen → (Tried → Seen → Script Case) → Script Case
attempt_by (call.Id source id) told b r step seen k = attempt_operation told b r step seen k
attempt_by (call.At source pointer) told b r step seen k = attempt_operation told b r step seen k
attempt_by (call.Flow w) told b r step seen k = attempt_workflow told b r step w seen k

abbrev pub attempt : Patterned → Bundle → Run → (step : Json) → Seen → (Tried → Seen → Script Case) → Script Case
attempt told b r step seen k = attempt_by (call_of step) told b r step seen k

-- ---- what is done after an attempt (4.6.7, 4.6.8)

-- the first action whose criteria all hold; a retry that was made as often as it may be is passed over
abbrev pub choice : Patterned → (Base → Option Json) → List Count → List Json → Outcome (Option Json)
choice told found counts [] = given None
choice told found counts (a ∷ rest) =
    if is_used_up counts a then choice told found counts rest
    else and_then (λ holds. if holds then given (Some a) else choice told found counts rest) (all_hold told found (criteria_in a))

abbrev pub act_case : Bundle → (step : ℕ) → Spot → List Count → Tried → (name : List ℕ) → Act → Case
act_case b i at counts t name act.End = Ends_run t.run t.ok
act_case b i at counts t name (act.GoStep id) = Goes_to t.run (index_of id (steps_of b t.run.workflow))
act_case b i at counts t name (act.GoFlow w) = Goes_over t.run w at
act_case b i at counts t name (act.Retry seconds limit before) = Retries t.run i at (once_more name counts) (delay_after seconds t.own) before

abbrev pub chosen_case : Bundle → (step : ℕ) → Spot → List Count → Tried → Option Json → Case
chosen_case b i at counts t None = Goes_on t.run i t.ok
chosen_case b i at counts t (Some a) = act_case b i at counts t (action_name a) (act_of a)

abbrev pub acts : Patterned → Bundle → (step : ℕ) → Json → List Count → Tried → Seen → Script Case
acts told b i step counts t seen =
    with_outcome (choice told (spoken_of b t.run seen.done t.own) counts (actions_at b t.run.workflow step t.ok)) (spot t.run step) (λ chosen.
    Plays (chosen_case b i (spot t.run step) counts t chosen) give)

-- ---- what goes before a step is tried again

abbrev pub enters_again : (step : ℕ) → List Count → Tried → Seen → Script Case
enters_again i counts t seen = Plays (Enters t.run i counts) give

abbrev pub enters_after : Run → (step : ℕ) → List Count → Result → Seen → Script Case
enters_after r i counts o seen = Plays (Enters r i counts) give

-- the named step is attempted once, or the named workflow is run, with no matter what comes of it
abbrev pub tries_again : Patterned → Bundle → Run → (step : ℕ) → Spot → List Count → First → Seen → Script Case
tries_again told b r i at counts first.Nothing seen = Plays (Enters r i counts) give
tries_again told b r i at counts (first.Step id) seen =
    with_step (slice_get (steps_of b r.workflow) (index_of id (steps_of b r.workflow))) (λ step.
    attempt told b r step seen (enters_again i counts))
tries_again told b r i at counts (first.Flow w) seen = Plays (Runs w r.inputs (r.depth + 1) at) (enters_after r i counts)

-- ---- a run, and its end (4.6.4)

-- a completed run is recorded
abbrev pub after_run : (workflow : List ℕ) → List Member → Result → Seen → Script Case
after_run w inputs (Completed outputs) seen = Records (record { workflow = w; inputs = inputs; outputs = outputs }) (Give (Completed outputs))
after_run w inputs (Broke outputs) seen = Give (Broke outputs)

-- the next dependency, or the first step
abbrev pub depend : Run → List (List ℕ) → Case
depend r [] = Enters r 0 []
depend r (w ∷ ws) = Depends r w ws

-- without it, the run is broken
abbrev pub after_dependency : Run → List (List ℕ) → Result → Seen → Script Case
after_dependency r ws (Completed outputs) seen = Plays (depend r ws) give
after_dependency r ws (Broke outputs) seen = Give (Broke [])

abbrev pub is_recorded : List ℕ → List Completion → Bool
is_recorded w done = list_any (λ c. bytes_eq c.workflow w) done

-- the step after, or the end of the run after the last
abbrev pub next_step : Run → (step : ℕ) → Option Json → Case
next_step r i None = Closes r true
next_step r i (Some step) = Enters r i []

abbrev pub result : Bool → List Member → Result
result true outputs = Completed outputs
result false outputs = Broke outputs

-- the outputs that a workflow lists
abbrev pub run_outputs : Bundle → Run → List Completion → Option Json → List Member
run_outputs b r done None = []
run_outputs b r done (Some workflow) = outputs_of (spoken_of b r done Nothing) workflow

abbrev pub outputs_at_end : Bundle → Run → List Completion → List Member
outputs_at_end b r done = run_outputs b r done (workflow_named r.workflow b.arazzo)

unfoldable pub script : Patterned → Bundle → Case → Seen → Script Case
script told b (Runs w inputs depth at) seen =
    if depth == deepest + 1 then Stops (TooDeep at)
    else Plays (depend (begun w inputs depth) (depends_of b w)) (after_run w inputs)
script told b (Depends r w ws) seen =
    if is_recorded w seen.done then Plays (depend r ws) give
    else Plays (Runs w r.inputs (r.depth + 1) (spot_before r)) (after_dependency r ws)
script told b (Enters r i counts) seen = with_step (slice_get (steps_of b r.workflow) i) (λ step. attempt told b r step seen (acts told b i step counts))
script told b (Goes_on r i true) seen = Plays (next_step r (i + 1) (slice_get (steps_of b r.workflow) (i + 1))) give
script told b (Goes_on r i false) seen = Plays (Closes r false) give
script told b (Ends_run r ok) seen = Plays (Closes r ok) give
script told b (Goes_to r i) seen = Plays (Enters r i []) give
script told b (Goes_over r w at) seen = Plays (Runs w r.inputs (r.depth + 1) at) give
script told b (Retries r i at counts seconds before) seen =
    if seconds == 0 || b.skip_delay then tries_again told b r i at counts before seen
    else Waits seconds (tries_again told b r i at counts before)
script told b (Closes r ok) seen = Give (result ok (outputs_at_end b r seen.done))
