-- Where an execution rests, where `told` is what is told of patterns.
use Rattle.std.specs.Prelude.{ℕ, ◌≡◌, Bool, true, false, List, [], ◌∷◌, Option, Some, None}
use Rattle.arz_json.specs.declared.Json.{Json}
use Rattle.arz_world.specs.declared.Request.{Request}
use Rattle.arz_description.specs.declared.parts.First.{First}
use Rattle.arz_scope.specs.declared.facts.Completion.{Completion}
use Rattle.arz_flow.specs.declared.answers.Answer.{Answer}
use Rattle.arz_relation.specs.declared.ends.End.{End}
use Rattle.arz_relation.specs.declared.ends.End.TheVariants.{Completed, Broke, Out, Stuck, TooDeep, Budget}
use Rattle.arz_flow.specs.declared.bundle.Bundle.{Bundle}
use Rattle.arz_relation.specs.declared.retries.Count.{Count}
use Rattle.arz_relation.specs.Cases.{spot, after_reply, tries_again}
use Rattle.arz_relation.specs.Executions.{fits, end, Fitting, IsTold}
use Rattle.arz_relation.specs.Play.{sends_in, Sends as SendsNext, Waits as WaitsNext}
use Rattle.arz_relation.specs.Stands.{Past, seen_of, Stands}
use Rattle.arz_relation.specs.Verdicts.{Patterned}
use Rattle.arz_runs.specs.Runs.{run_at, step_at, then_of, continues, Goal}
use Rattle.arz_runs.specs.declared.frames.Frame.{Frame}
use Rattle.arz_runs.specs.declared.frames.State.{State}
use Rattle.arz_runs.specs.declared.frames.State.TheVariants as state
use Rattle.arz_runs.specs.declared.frames.Then.{Then}

-- where an execution rests, as it is told: a request is to be sent, so many seconds are to pass, or it has ended
pub data Rest : Type 0 where
  Sends : Request → Rest
  Waits : (seconds : ℕ) → Rest
  Ended : End → Rest

abbrev pub rest_of : State → Rest
rest_of (state.Sends q i next) = Sends q
rest_of (state.Waits n i counts before) = Waits n
rest_of (state.Ended e) = Ended e

-- whether a request is to be sent, and whether time is to pass
abbrev pub is_sending : Rest → Bool
is_sending (Sends q) = true
is_sending (Waits n) = false
is_sending (Ended e) = false

abbrev pub is_waiting : Rest → Bool
is_waiting (Sends q) = false
is_waiting (Waits n) = true
is_waiting (Ended e) = false

-- After the answers r this is to be done next under the open runs, innermost first, where so many requests were sent and
-- these completions are the last.
pub record Goes (told : Patterned) (b : Bundle) (fs : List Frame) (done : List Completion) (sends : ℕ) (r : List Answer) (goal : Goal) : Type 0 where
  pub past : Past
  pub completed : past.done ≡ done
  pub counted : sends_in past.asked ≡ sends
  pub stands : Stands told b (goal (seen_of past)) (continues told b fs) past r

-- the execution waits for the reply to a request of a step of the innermost run
pub record IsSending (told : Patterned) (b : Bundle) (fs : List Frame) (done : List Completion) (sends : ℕ) (q : Request) (i : ℕ) (next : Then) (r : List Answer) : Type 0 where
  pub frame : Frame
  pub below : List Frame
  pub runs : fs ≡ frame ∷ below
  pub step : Json
  pub there : step_at b frame.workflow i ≡ Some step
  pub goes : Goes told b fs done sends r (λ seen. SendsNext q (after_reply told b (run_at frame below) step q (then_of told b i step next)))

-- the execution waits before a step of the innermost run is tried again
pub record IsWaiting (told : Patterned) (b : Bundle) (fs : List Frame) (done : List Completion) (sends : ℕ) (n : ℕ) (i : ℕ) (counts : List Count) (before : First) (r : List Answer) : Type 0 where
  pub frame : Frame
  pub below : List Frame
  pub runs : fs ≡ frame ∷ below
  pub step : Json
  pub there : step_at b frame.workflow i ≡ Some step
  pub goes : Goes told b fs done sends r (λ seen. WaitsNext n (tries_again told b (run_at frame below) i (spot (run_at frame below) step) counts before))

-- the end lacks an answer
abbrev pub lacks_answer : End → Bool
lacks_answer (Out q) = true
lacks_answer (Completed outputs) = false
lacks_answer (Broke outputs) = false
lacks_answer (Stuck cause at) = false
lacks_answer (TooDeep at) = false
lacks_answer (Budget limit) = false

-- the execution has ended, where all that it needs of patterns is told
pub record IsOver (told : Patterned) (b : Bundle) (e : End) (r : List Answer) : Type 0 where
  pub fitting : IsTold told b r → Fitting told b r
  pub end : IsTold told b r → end told b r ≡ Some e
  pub settled : lacks_answer e ≡ false

abbrev pub Rests : Patterned → Bundle → List Frame → List Completion → (sends : ℕ) → State → List Answer → Type 0
Rests told b fs done sends (state.Sends q i next) r = IsSending told b fs done sends q i next r
Rests told b fs done sends (state.Waits n i counts before) r = IsWaiting told b fs done sends n i counts before r
Rests told b fs done sends (state.Ended e) r = IsOver told b e r

-- whether the end lacks an answer like this one
abbrev pub takes : Option End → Answer → Bool
takes None a = false
takes (Some (Completed outputs)) a = false
takes (Some (Broke outputs)) a = false
takes (Some (Stuck cause at)) a = false
takes (Some (TooDeep at)) a = false
takes (Some (Budget limit)) a = false
takes (Some (Out q)) a = fits q a
