-- For private clauses: a machine that was told a front of the replies.
use Rattle.std.specs.Prelude.{◌≡◌, ◌+◌, Bool, true, false, List, [], ◌∷◌, ◌++◌, length, Some}
use Rattle.arz_world.specs.declared.Reply.{Reply}
use Rattle.arz_world.specs.declared.Request.{Request}
use Rattle.arz_flow.specs.declared.answers.Ask.{Ask}
use Rattle.arz_flow.specs.declared.answers.Ask.TheVariants.{Send}
use Rattle.arz_flow.specs.declared.answers.End.{End}
use Rattle.arz_flow.specs.declared.answers.End.TheVariants.{Out}
use Rattle.arz_flow.specs.declared.bundle.Bundle.{Bundle}
use Rattle.arz_flow.specs.Executions.{asks, end, IsTold}
use Rattle.arz_flow.specs.Verdicts.{Patterned}
use Rattle.arz_machine.specs.At.{Standing, At}
use Rattle.arz_machine.specs.States.{Sends}
use Rattle.arz_session.specs.declared.session.Line.{Line}
use Rattle.arz_session.specs.declared.session.Outcome.{Outcome}
use Rattle.arz_session.specs.declared.session.Outcome.TheVariants.{Ended, Pattern as Cut}
use Rattle.arz_session.specs.Mock.{answers, lines_of}

-- the replies of the front were taken, each with its line; all of them where an answer is lacking
pub record IsPlayed (told : Patterned) (b : Bundle) (replies : List Reply) (m : Standing) (lines : List Line) : Type 0 where
  pub used : List Reply
  pub left : List Reply
  pub front : used ++ left ≡ replies
  pub at : At told m b (answers used)
  pub count : length lines ≡ length used
  pub all : IsTold told b (answers used) → (q : Ask) → end told b (answers used) ≡ Some (Out q) → left ≡ []
  pub lines_told : IsTold told b (answers used) → lines ≡ lines_of (asks told b (answers used)) used

-- the replies of the front were taken, each with its line, and the next ask has its line and waits for the next reply
pub record IsStopped (told : Patterned) (b : Bundle) (replies : List Reply) (m : Standing) (lines : List Line) : Type 0 where
  pub used : List Reply
  pub reply : Reply
  pub left : List Reply
  pub front : used ++ reply ∷ left ≡ replies
  pub at : At told m b (answers used)
  pub count : length lines ≡ length used + 1
  pub request : Request
  pub waits : m.rest ≡ Sends request
  pub lines_told : IsTold told b (answers used) → lines ≡ lines_of (asks told b (answers used) ++ Send request ∷ []) (used ++ reply ∷ [])

-- the same, by whether a pattern was too big
abbrev pub Plays : Bool → Patterned → Bundle → List Reply → Standing → List Line → Type 0
Plays false = IsPlayed
Plays true = IsStopped

-- how a session ended: for a pattern that was too big, or at this end
abbrev pub outcome_by : Bool → End → Outcome
outcome_by true e = Cut
outcome_by false e = Ended e
