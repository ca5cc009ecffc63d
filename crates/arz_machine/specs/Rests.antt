-- Where an execution rests, where `told` is what is told of patterns.
use Rattle.std.specs.Prelude.{ℕ, ◌≡◌, true, false, Bool, List, [], ◌∷◌, slice_get, length, Option, Some, None}
use Rattle.arz_json.specs.declared.Json.{Json}
use Rattle.arz_world.specs.declared.Request.{Request}
use Rattle.arz_flow.specs.declared.answers.Answer.{Answer}
use Rattle.arz_flow.specs.declared.answers.End.{End}
use Rattle.arz_flow.specs.declared.answers.End.TheVariants.{Completed, Broke, Out, Stuck, Budget}
use Rattle.arz_flow.specs.declared.bundle.Bundle.{Bundle}
use Rattle.arz_scope.specs.declared.facts.Fact.{Fact}
use Rattle.arz_flow.specs.Documents.{steps_of}
use Rattle.arz_flow.specs.Play.{Sends as SendsNext, sends_in}
use Rattle.arz_flow.specs.Cases.{after_run, after_reply}
use Rattle.arz_flow.specs.Executions.{fits, end, Fitting, IsTold}
use Rattle.arz_flow.specs.Verdicts.{Patterned}
use Rattle.arz_flow.specs.Stands.{Follow, Past, Stands}
use Rattle.arz_machine.specs.States.{Rest, Sends, Ended, run_of}

-- the run that is open
abbrev pub open_runs : Bundle → List Follow
open_runs b = after_run b.workflow b.inputs ∷ []

-- the execution waits for the reply to a step's request, after these facts
pub record IsSending (told : Patterned) (b : Bundle) (facts : List Fact) (i : ℕ) (q : Request) (r : List Answer) : Type 0 where
  pub step : Json
  pub there : slice_get (steps_of b b.workflow) i ≡ Some step
  pub past : Past
  pub fresh : past.done ≡ []
  pub counted : sends_in past.asked ≡ length facts
  pub stands : Stands told b (SendsNext q (after_reply told b (run_of b facts) i step q)) (open_runs b) past r

-- the end lacks an answer
abbrev pub lacks_answer : End → Bool
lacks_answer (Out q) = true
lacks_answer (Completed outputs) = false
lacks_answer (Broke outputs) = false
lacks_answer (Stuck cause at) = false
lacks_answer (Budget limit) = false

-- the execution has ended, where all that it needs of patterns is told
pub record IsOver (told : Patterned) (b : Bundle) (e : End) (r : List Answer) : Type 0 where
  pub fitting : IsTold told b r → Fitting told b r
  pub end : IsTold told b r → end told b r ≡ Some e
  pub settled : lacks_answer e ≡ false

abbrev pub Rests : Patterned → Bundle → List Fact → (step : ℕ) → Rest → List Answer → Type 0
Rests told b facts i (Sends q) r = IsSending told b facts i q r
Rests told b facts i (Ended e) r = IsOver told b e r

-- whether the end lacks an answer like this one
abbrev pub takes : Option End → Answer → Bool
takes None a = false
takes (Some (Completed outputs)) a = false
takes (Some (Broke outputs)) a = false
takes (Some (Stuck cause at)) a = false
takes (Some (Budget limit)) a = false
takes (Some (Out q)) a = fits q a
