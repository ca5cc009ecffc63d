-- Statements of the laws of endings.
use Rattle.std.specs.Prelude.{◌≡◌, ◌⊎◌, ℕ, List}
use Rattle.std.specs.Option.{IsSome}
use Rattle.arz_rx.specs.Patterns.{PatternsView, Rose as PatternsRose}
use Rattle.arz_world.specs.Outside.{FilesView}
use Rattle.arz_world.specs.declared.Reply.{Reply}
use Rattle.arz_flow.specs.declared.bundle.Bundle.{Bundle}
use Rattle.arz_bundle.specs.Laws.{MissingFail}
use Rattle.arz_flow.specs.Executions.{IsTold}
use Rattle.arz_session.specs.Laws.{HasEndOver}
use Rattle.arz_session.specs.Mock.{answers}
use Rattle.arz_top.specs.declared.words.Command.{Command}
use Rattle.arz_top.specs.declared.ending.Ending.{Ending}
use Rattle.arz_top.specs.Endings.{Comes}
use Rattle.arz_top.specs.Steady.{IsSteady, IsRunOf, HasOverlay, HasPattern, HasJudgement, ArePatternsSteady}

-- Over files that tell what they hold, and of which a read failed only where no file is there, and patterns that tell what the command asks
-- of them, of which none was too big, the words come to no two endings.
abbrev pub OneEnding : Type 0
OneEnding =
    (before now : FilesView) (old new : PatternsView) (command : Command) (e e' : Ending) → IsSteady before now → ArePatternsSteady before now old new command
    → Comes before now old new command e → Comes before now old new command e' → e ≡ e'

-- Patterns that tell all, of which none was too big, are steady, whatever the files hold and the words are.
abbrev pub TellingAll : Type 0
TellingAll =
    (before now : FilesView) (old new : PatternsView) (command : Command) → ((pattern text : List ℕ) → IsSome (old.told pattern text)) → (PatternsRose old.too_big new.too_big → ⊥)
    → ArePatternsSteady before now old new command

-- So are any patterns where the setup lists no overlay, no criterion of the description is a pattern, and the run has simple criteria alone.
abbrev pub AskingNothing : Type 0
AskingNothing =
    (before now : FilesView) (old new : PatternsView) (command : Command) → (HasOverlay before now old new command → ⊥) → (HasPattern before now old new command → ⊥)
    → (HasJudgement before now old new command → ⊥) → ArePatternsSteady before now old new command

-- the words are mock, and the files give a bundle and replies, over which the execution has an end, where what it asks of patterns is told
abbrev pub IsRun : (before now : FilesView) (old new : PatternsView) → Command → Type 0
IsRun before now old new command =
    (bundle : Bundle) × (given : List Reply) × IsRunOf before now old new command bundle given × (IsTold old.told bundle (answers given) → HasEndOver old.told bundle given)

-- Whatever the files hold and whatever is told of patterns, the words come to an ending, or they are mock and the execution has an end.
abbrev pub EndingOrRun : Type 0
EndingOrRun = (before now : FilesView) (old new : PatternsView) (command : Command) → MissingFail before now → ((e : Ending) × Comes before now old new command e) ⊎ IsRun before now old new command
