-- Which answer each ending has.
use Rattle.std.specs.Prelude.{◌≡◌, ℕ, List}
use Rattle.arz_json.specs.declared.Member.{Member}
use Rattle.arz_json.specs.declared.Refusal.{Refusal}
use Rattle.arz_flow.specs.declared.answers.Ask.{Ask}
use Rattle.arz_request.specs.declared.cause.Cause.{Cause}
use Rattle.arz_flow.specs.declared.answers.Spot.{Spot}
use Rattle.arz_flow.specs.declared.answers.End.TheVariants.{Completed, Broke, Out, Stuck, Budget}
use Rattle.arz_session.specs.declared.session.Outcome.TheVariants.{Ended, Pattern as Cut}
use Rattle.arz_session.specs.declared.session.Session.{Session}
use Rattle.arz_top.specs.declared.ending.Ending.{Ending}
use Rattle.arz_top.specs.declared.ending.Ending.TheVariants.{Words, File, Refused, Pattern, Ready, Played}

-- Came: the endings that the words may come to
pub record Exact (Came : Ending → Type 0) (answer : ℕ) : Type 0 where
  pub ready : Came Ready → answer ≡ 0
  pub completed : (s : Session) (outputs : List Member) → Came (Played s) → s.outcome ≡ Ended (Completed outputs) → answer ≡ 0
  pub broke : (s : Session) (outputs : List Member) → Came (Played s) → s.outcome ≡ Ended (Broke outputs) → answer ≡ 1
  pub words : Came Words → answer ≡ 2
  pub file : (path : List ℕ) → Came (File path) → answer ≡ 13
  pub refused : (refusal : Refusal) → Came (Refused refusal) → answer ≡ 3
  pub budget : (s : Session) (limit : ℕ) → Came (Played s) → s.outcome ≡ Ended (Budget limit) → answer ≡ 6
  pub stuck : (s : Session) (cause : Cause) (at : Spot) → Came (Played s) → s.outcome ≡ Ended (Stuck cause at) → answer ≡ 7
  pub pattern : Came Pattern → answer ≡ 15
  pub cut : (s : Session) → Came (Played s) → s.outcome ≡ Cut → answer ≡ 15
  pub out : (s : Session) (ask : Ask) → Came (Played s) → s.outcome ≡ Ended (Out ask) → answer ≡ 14
