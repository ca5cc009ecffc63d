-- The statuses, one by one.
use Rattle.std.specs.Prelude.{◌≡◌, ◌≢◌, ◌⊎◌, ◌++◌, ℕ, List, Ok, codes}
use Rattle.arz_json.specs.declared.Member.{Member}
use Rattle.arz_json.specs.declared.Refusal.{Refusal}
use Rattle.arz_rx.specs.Patterns.{PatternsView, Rose as PatternsRose}
use Rattle.arz_world.specs.Outside.{Gains, Rose, FilesView, SinkView}
use Rattle.arz_flow.specs.declared.answers.Ask.{Ask}
use Rattle.arz_request.specs.declared.cause.Cause.{Cause}
use Rattle.arz_flow.specs.declared.answers.Spot.{Spot}
use Rattle.arz_flow.specs.declared.answers.End.TheVariants.{Completed, Broke, Out, Stuck, Budget}
use Rattle.arz_flow.specs.declared.bundle.Bundle.{Bundle}
use Rattle.arz_bundle.specs.Loading.{Loads}
use Rattle.arz_top.specs.declared.words.Command.{Command}
use Rattle.arz_top.specs.declared.words.Command.TheVariants.{Check, Unknown}
use Rattle.arz_session.specs.declared.session.Line.{Line}
use Rattle.arz_session.specs.declared.session.Outcome.TheVariants.{Ended}
use Rattle.arz_session.specs.declared.session.Session.{Session}
use Rattle.arz_top.specs.declared.ending.Ending.{Ending}
use Rattle.arz_top.specs.declared.ending.Ending.TheVariants.{Refused, Played}
use Rattle.arz_top.specs.Endings.{Comes}
use Rattle.arz_top.specs.Exact.{Exact}
use Rattle.arz_top.specs.Report.{line, ask_lines, report, status, refusal_line}
use Rattle.arz_top.specs.Steady.{IsSteady, ArePatternsSteady}

-- what the files, the patterns and the sink show at the beginning of a call and at its end
pub record Rows (files files_now : FilesView) (patterns patterns_now : PatternsView) (command : Command) (sink sink_now : SinkView) (answer : ℕ) : Type 0 where
  -- 0 only where the workflow was completed, or where the files of the setup that is checked give a bundle
  pub completed : answer ≡ 0 → ((s : Session) × (outputs : List Member) × Comes files files_now patterns patterns_now command (Played s) × (s.outcome ≡ Ended (Completed outputs)))
      ⊎ ((setup : List ℕ) × (bundle : Bundle) × (command ≡ Check setup) × Loads files files_now patterns patterns_now setup (Ok bundle))
  -- 1 only where a step failed
  pub broke : answer ≡ 1 → (s : Session) × (outputs : List Member) × Comes files files_now patterns patterns_now command (Played s) × (s.outcome ≡ Ended (Broke outputs))
  -- 2 exactly where the words are no command
  pub words : answer ≡ 2 → command ≡ Unknown
  pub no_command : command ≡ Unknown → (answer ≡ 2) ⊎ (answer ≡ 10) ⊎ (answer ≡ 11)
  -- 3 only where a document is refused, and this refusal is printed
  pub refused : answer ≡ 3 → (refusal : Refusal) × Comes files files_now patterns patterns_now command (Refused refusal) × Gains sink.held sink_now.held (λ added. added ≡ refusal_line refusal)
  -- 6 only where a request was next and as many were sent as may be: this many
  pub budget : answer ≡ 6 → (s : Session) × (limit : ℕ) × Comes files files_now patterns patterns_now command (Played s) × (s.outcome ≡ Ended (Budget limit))
  -- 7 only where the execution couldn't go on
  pub stuck : answer ≡ 7 → (s : Session) × (cause : Cause) × (at : Spot) × Comes files files_now patterns patterns_now command (Played s) × (s.outcome ≡ Ended (Stuck cause at))
  -- 10 only where the sink failed
  pub sink_fault : answer ≡ 10 → Rose sink.faults sink_now.faults
  -- 13 only where a read of the printed path failed
  pub file : answer ≡ 13 → (path : List ℕ) × Rose (files.faults path) (files_now.faults path) × Gains sink.held sink_now.held (λ added. added ≡ line (codes "file " ++ path))
  -- 14 only where the replies ran out
  pub out : answer ≡ 14 → (s : Session) × (ask : Ask) × Comes files files_now patterns patterns_now command (Played s) × (s.outcome ≡ Ended (Out ask))
  -- 15 only where a pattern was too big: a line says so, behind those of the asks that were answered
  pub pattern : answer ≡ 15 → PatternsRose patterns.too_big patterns_now.too_big × Gains sink.held sink_now.held (λ added. (lines : List Line) × (added ≡ ask_lines lines ++ line (codes "pattern")))
  -- at every other status than 10 and 11 the report stands whole
  pub whole : answer ≢ 10 → answer ≢ 11 → (ending : Ending) × Comes files files_now patterns patterns_now command ending × (answer ≡ status ending) × Gains sink.held sink_now.held (λ added. added ≡ report ending)
  -- where the sink didn't fail, only want of memory keeps the report away
  pub succeeds : (Rose sink.faults sink_now.faults → ⊥) → answer ≢ 11 → (ending : Ending) × Comes files files_now patterns patterns_now command ending × (answer ≡ status ending)
  -- over files that tell what they hold, where no read of a file that is there failed, nor the sink, and memory sufficed, and patterns that tell what the command asks of them, of which none was too big, each answer stands exactly where the words come to its ending
  pub exact : IsSteady files files_now → ArePatternsSteady files files_now patterns patterns_now command → (Rose sink.faults sink_now.faults → ⊥) → answer ≢ 11 → Exact (Comes files files_now patterns patterns_now command) answer
