-- The workflow relation, case by case, over the raw documents (Arazzo 1.0.1, 4.6.4 and 4.6.5), where `told` is what is told
-- of patterns.
use Rattle.std.specs.Prelude.{ℕ, ◌+◌, ◌==◌, ◌++◌, if◌then◌else◌, Bool, true, false, List, [], ◌∷◌, codes, slice_get}
use Rattle.std.specs.declared.option.Option.{Option}
use Rattle.std.specs.declared.option.Option.TheVariants.{None, Some}
use Rattle.std.specs.declared.result.Result.TheVariants.{Ok, Err}
use Rattle.arz_json.specs.declared.Json.{Json}
use Rattle.arz_json.specs.declared.Member.{Member}
use Rattle.arz_world.specs.declared.Reply.{Reply}
use Rattle.arz_world.specs.declared.Request.{Request}
use Rattle.arz_flow.specs.declared.answers.Spot.{Spot}
use Rattle.arz_flow.specs.declared.bundle.Bundle.{Bundle}
use Rattle.arz_scope.specs.declared.facts.Fact.{Fact}
use Rattle.arz_request.specs.declared.cause.Cause.TheVariants.{TooWide}
use Rattle.arz_path.specs.Outcome.{Outcome, given, wide, untold}
use Rattle.arz_flow.specs.Documents.{text_at, workflow_named, steps_of, criteria_of}
use Rattle.arz_flow.specs.Verdicts.{Patterned, verdict}
use Rattle.arz_request.specs.Causes.{Made}
use Rattle.arz_scope.specs.Outputs.{outputs_of}
use Rattle.arz_flow.specs.Play.{Result, Completed, Broke, Completion, NoStep, Untold, Stuck, Budget, Seen, sends_in, Script, Give, Stops, Sends, Plays, Records}
use Rattle.arz_flow.specs.Requests.{request_of}
use Rattle.arz_scope.specs.Scopes.{Surroundings, Nothing, Exchange, found}

-- where a run stands: its workflow, its inputs, and the facts of its attempts so far
pub record Run : Type 0 where
  pub workflow : List ℕ
  pub inputs : List Member
  pub facts : List Fact

-- the cases
pub data Case : Type 0 where
  -- a run of a workflow
  Runs : (workflow : List ℕ) → (inputs : List Member) → Case
  -- an attempt of a step
  Enters : Run → (step : ℕ) → Case
  -- after an attempt that succeeded or failed
  Goes_on : Run → (step : ℕ) → Bool → Case
  -- the run is over
  Closes : Run → Bool → Case

-- what follows another case: its result is the result
abbrev pub give : Result → Seen → Script Case
give r seen = Give r

-- a completed run is recorded
abbrev pub after_run : (workflow : List ℕ) → List Member → Result → Seen → Script Case
after_run w inputs (Completed outputs) seen = Records (record { workflow = w; inputs = inputs; outputs = outputs }) (Give (Completed outputs))
after_run w inputs (Broke outputs) seen = Give (Broke outputs)

-- a run before its first step
abbrev pub begun : (workflow : List ℕ) → List Member → Run
begun w inputs = record { workflow = w; inputs = inputs; facts = [] }

-- what a run's expressions speak of
abbrev pub surroundings : Bundle → Run → List Completion → Surroundings
surroundings b r done = record { description = b.arazzo; inputs = r.inputs; facts = r.facts; done = done }

-- a step that is there; a valid bundle has each step that is entered
abbrev pub with_step : Option Json → (Json → Script Case) → Script Case
with_step None k = Stops NoStep
with_step (Some step) k = k step

abbrev pub step_id : Json → List ℕ
step_id step = text_at (codes "stepId") step

abbrev pub spot : Run → Json → Spot
spot r step = record { workflow = r.workflow; step = Some (step_id step) }

-- a request that can be made; otherwise everything ends at the place
abbrev pub with_request : Made Request → Spot → (Request → Script Case) → Script Case
with_request (Ok q) at k = k q
with_request (Err cause) at k = Stops (Stuck cause at)

-- where as many requests were sent as may be, everything ends before the next
abbrev pub within_budget : Bundle → Seen → Script Case → Script Case
within_budget b seen next = if sends_in seen.asked == b.max_attempts then Stops (Budget b.max_attempts) else next

-- whether an attempt succeeded, where that can be said; a selection that is too wide ends everything at the place
abbrev pub with_verdict : Outcome Bool → Spot → (Bool → Script Case) → Script Case
with_verdict (given ok) at k = k ok
with_verdict wide at k = Stops (Stuck TooWide at)
with_verdict untold at k = Stops Untold

-- the fact of an attempt: the step's outputs, which may speak of its request and reply
abbrev pub fact_of : Bundle → Run → List Completion → Json → Request → Reply → Fact
fact_of b r done step q y = record { step = step_id step; outputs = outputs_of (found (surroundings b r done) (Exchange q y)) step }

abbrev pub with_fact : Run → Fact → Run
with_fact r fact = record { workflow = r.workflow; inputs = r.inputs; facts = r.facts ++ fact ∷ [] }

-- the criteria of a step, of which the expressions may speak of its request and reply
abbrev pub verdict_of : Patterned → Bundle → Run → List Completion → Json → Request → Reply → Outcome Bool
verdict_of told b r done step q y = verdict told (found (surroundings b r done) (Exchange q y)) y (criteria_of step)

-- the criteria are tried, and then the fact is made
abbrev pub after_reply : Patterned → Bundle → Run → (step : ℕ) → Json → Request → Reply → Seen → Script Case
after_reply told b r i step q y seen =
    with_verdict (verdict_of told b r seen.done step q y) (spot r step) (λ ok.
    Plays (Goes_on (with_fact r (fact_of b r seen.done step q y)) i ok) give)

-- the attempt of an operation step: its request is made, and sent where one more may be, and one reply is taken
abbrev pub attempt : Patterned → Bundle → Run → (step : ℕ) → Seen → Json → Script Case
attempt told b r i seen step =
    with_request (request_of b (found (surroundings b r seen.done) Nothing) (workflow_named r.workflow b.arazzo) step) (spot r step) (λ q.
    within_budget b seen (Sends q (after_reply told b r i step q)))

-- the step after, or the end of the run after the last
abbrev pub next_step : Run → (step : ℕ) → Option Json → Case
next_step r i None = Closes r true
next_step r i (Some step) = Enters r i

abbrev pub result : Bool → List Member → Result
result true outputs = Completed outputs
result false outputs = Broke outputs

-- the outputs that a workflow lists
abbrev pub run_outputs : Bundle → Run → List Completion → Option Json → List Member
run_outputs b r done None = []
run_outputs b r done (Some workflow) = outputs_of (found (surroundings b r done) Nothing) workflow

abbrev pub outputs_at_end : Bundle → Run → List Completion → List Member
outputs_at_end b r done = run_outputs b r done (workflow_named r.workflow b.arazzo)

unfoldable pub script : Patterned → Bundle → Case → Seen → Script Case
script told b (Runs w inputs) seen = Plays (Enters (begun w inputs) 0) (after_run w inputs)
script told b (Enters r i) seen = with_step (slice_get (steps_of b r.workflow) i) (attempt told b r i seen)
script told b (Goes_on r i true) seen = Plays (next_step r (i + 1) (slice_get (steps_of b r.workflow) (i + 1))) give
script told b (Goes_on r i false) seen = Plays (Closes r false) give
script told b (Closes r ok) seen = Give (result ok (outputs_at_end b r seen.done))
