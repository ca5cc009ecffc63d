-- Where an execution rests next.
use Rattle.std.specs.Prelude.{ℕ, ◌==◌, nat_lt, if◌then◌else◌, Bool, true, false, List, [], length}
use Rattle.std.specs.declared.option.Option.{Option}
use Rattle.std.specs.declared.option.Option.TheVariants.{None, Some}
use Rattle.std.specs.declared.result.Result.TheVariants.{Ok, Err}
use Rattle.arz_json.specs.declared.Json.{Json}
use Rattle.arz_world.specs.declared.Reply.{Reply}
use Rattle.arz_world.specs.declared.Request.{Request}
use Rattle.arz_flow.specs.declared.answers.End.TheVariants.{Stuck, Budget}
use Rattle.arz_flow.specs.declared.answers.Spot.{Spot}
use Rattle.arz_flow.specs.declared.bundle.Bundle.{Bundle}
use Rattle.arz_scope.specs.declared.facts.Fact.{Fact}
use Rattle.arz_path.specs.Outcome.{Outcome}
use Rattle.arz_flow.specs.Verdicts.{Patterned}
use Rattle.arz_flow.specs.Cases.{Run, surroundings, spot, fact_of, verdict_of, result, outputs_at_end}
use Rattle.arz_flow.specs.Executions.{end_of_result}
use Rattle.arz_flow.specs.Documents.{workflow_named}
use Rattle.arz_request.specs.Causes.{Made}
use Rattle.arz_request.specs.declared.cause.Cause.TheVariants.{TooWide}
use Rattle.arz_flow.specs.Requests.{request_of}
use Rattle.arz_scope.specs.Scopes.{Nothing, found}
use Rattle.arz_flow.specs.declared.answers.End.{End}

-- where an execution rests: a request is to be sent, or it has ended
pub data Rest : Type 0 where
  Sends : Request → Rest
  Ended : End → Rest

-- whether a request is to be sent
abbrev pub is_sending : Rest → Bool
is_sending (Sends q) = true
is_sending (Ended e) = false

-- where a step's request is to be sent there is such a step
abbrev pub has_step : Rest → (step count : ℕ) → Bool
has_step (Sends q) step count = nat_lt step count
has_step (Ended e) step count = true

-- the run of the starting workflow, after these facts
abbrev pub run_of : Bundle → List Fact → Run
run_of b facts = record { workflow = b.workflow; inputs = b.inputs; facts = facts }

-- whether as many requests were sent as may be; each attempt sent one and left its fact
abbrev pub is_spent : Bundle → List Fact → Bool
is_spent b facts = length facts == b.max_attempts

-- a request that is to be sent where one more may be, or the end at this place
abbrev pub rest_by : Bundle → List Fact → Made Request → Spot → Rest
rest_by b facts (Ok q) at = if is_spent b facts then Ended (Budget b.max_attempts) else Sends q
rest_by b facts (Err cause) at = Ended (Stuck cause at)

-- the request of a step that is entered after these facts
abbrev pub request_in : Bundle → List Fact → Json → Made Request
request_in b facts step = request_of b (found (surroundings b (run_of b facts) []) Nothing) (workflow_named b.workflow b.arazzo) step

abbrev pub entered : Bundle → List Fact → Json → Rest
entered b facts step = rest_by b facts (request_in b facts step) (spot (run_of b facts) step)

-- the fact of an attempt after these facts
abbrev pub next_fact : Bundle → List Fact → Json → Request → Reply → Fact
next_fact b facts step q y = fact_of b (run_of b facts) [] step q y

abbrev pub closed : Bundle → List Fact → Bool → Rest
closed b facts ok = Ended (end_of_result b.workflow (result ok (outputs_at_end b (run_of b facts) [])))

-- whether the attempt of a step succeeded
abbrev pub verdict_in : Patterned → Bundle → List Fact → Json → Request → Reply → Outcome Bool
verdict_in told b facts step q y = verdict_of told b (run_of b facts) [] step q y

-- a selection of a criterion of a step is too wide
abbrev pub widened : Bundle → List Fact → Json → Rest
widened b facts step = Ended (Stuck TooWide (spot (run_of b facts) step))

-- after an attempt: the next step, if the attempt succeeded and there is one, else the end of the run
abbrev pub goes_to : Bundle → List Fact → Bool → Option Json → Rest
goes_to b facts true (Some step) = entered b facts step
goes_to b facts true None = closed b facts true
goes_to b facts false o = closed b facts false
