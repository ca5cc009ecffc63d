-- Trees that nest no deeper than one that is read from a text, inside of open runs, and where the execution rests.
use Rattle.std.specs.Prelude.{ℕ, nat_lt, Bool, true, List, Option, Some, None}
use Rattle.std.specs.Option.{ForSome}
use Rattle.arz_world.specs.declared.Request.{Request}
use Rattle.arz_scope.specs.declared.facts.Completion.{Completion}
use Rattle.arz_scope.specs.declared.facts.Fact.{Fact}
use Rattle.arz_scope.specs.Shallow.{AreShallow, HaveShallow, AreDoneShallow, SendsShallow}
use Rattle.arz_runs.specs.declared.frames.Frame.{Frame}
use Rattle.arz_runs.specs.declared.frames.State.{State}
use Rattle.arz_runs.specs.declared.frames.State.TheVariants as state

-- each tree of a run is shallow
abbrev pub IsShallowFrame : Frame → Type 0
IsShallowFrame f = AreShallow f.inputs × HaveShallow f.facts

-- so is each that is looked at
pub record IsShallowLook (frame : Frame) (fact : Option Fact) (done newly : List Completion) : Type 0 where
  pub frame_is : IsShallowFrame frame
  pub fact_is : ForSome fact (λ f. AreShallow f.outputs)
  pub done_are : AreDoneShallow done
  pub newly_are : AreDoneShallow newly

-- so is each of a request that is to be sent
abbrev pub sent_in : State → Option Request
sent_in (state.Sends q i next) = Some q
sent_in (state.Waits n i counts before) = None
sent_in (state.Ended e) = None

abbrev pub IsShallowState : State → Type 0
IsShallowState s = ForSome (sent_in s) SendsShallow

-- where a request is to be sent, fewer were sent than may be
abbrev pub leaves_send_at : (sends limit : ℕ) → State → Bool
leaves_send_at sends limit (state.Sends q i next) = nat_lt sends limit
leaves_send_at sends limit (state.Waits n i counts before) = true
leaves_send_at sends limit (state.Ended e) = true
