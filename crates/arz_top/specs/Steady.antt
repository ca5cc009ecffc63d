-- Files that tell what they hold, and of which a read failed only where no file is there; and patterns that tell what a command asks
-- of them, of which none was too big.
use Rattle.std.specs.Prelude.{◌≡◌, ◌≢◌, ◌⊎◌, ℕ, List, [], codes, true, None, Some, Ok}
use Rattle.arz_rx.specs.Patterns.{PatternsView, Rose as PatternsRose}
use Rattle.arz_world.specs.Outside.{FilesView, ReadsAs, Rose}
use Rattle.arz_world.specs.declared.Reply.{Reply}
use Rattle.arz_json.specs.Look.{items_at}
use Rattle.arz_json.specs.declared.Json.{Json}
use Rattle.arz_criteria.specs.Rules.{patterns_in, AreReadingsTold}
use Rattle.arz_flow.specs.Executions.{IsTold}
use Rattle.arz_flow.specs.Verdicts.{asks_patterns}
use Rattle.arz_flow.specs.declared.bundle.Bundle.{Bundle}
use Rattle.arz_overlay.specs.Documents.{Document, document}
use Rattle.arz_overlay.specs.Overlaid.{overlaid}
use Rattle.arz_bundle.specs.Loading.{file_limit, IsFile, ReadingOverlaid, Loads, Gives_replies}
use Rattle.arz_bundle.specs.Overlays.{overlays_for}
use Rattle.arz_bundle.specs.Setup.{description_path}
use Rattle.arz_session.specs.Mock.{answers}
use Rattle.arz_top.specs.declared.words.Command.{Command}
use Rattle.arz_top.specs.declared.words.Command.TheVariants.{Mock, Check, Unknown}

-- before, now: what the files show at a call's beginning and end
pub record IsSteady (before now : FilesView) : Type 0 where
  -- each path is told of: that no file is there, or the bytes of the file
  pub told : (path : List ℕ) → before.told path ≢ None
  -- the count of failed reads has risen only of paths where no file is
  pub missing : (path : List ℕ) → Rose (before.faults path) (now.faults path) → before.told path ≡ Some None

-- the file at this path is small enough, and this is the tree of its JSON text
abbrev pub IsFileAt : FilesView → List ℕ → Json → Type 0
IsFileAt files path tree = (bytes : List ℕ) × ReadsAs (files.told path) file_limit bytes × IsFile bytes tree

-- this is the setup of a command
abbrev pub IsSetup : FilesView → Command → Json → Type 0
IsSetup files (Mock path replies) setup = IsFileAt files path setup
IsSetup files (Check path) setup = IsFileAt files path setup
IsSetup files Unknown setup = ⊥

-- old, new: what the patterns show at the call's beginning and end
module _ (before now : FilesView) (old new : PatternsView) where
  -- this is the description of a setup, after its overlays
  abbrev pub IsDescription : (setup description : Json) → Type 0
  IsDescription setup description =
      ReadingOverlaid before now old new (description_path setup) (codes "arazzo") (overlays_for None setup) (λ tree made. made ≡ Ok tree) (Ok description)

  -- a command runs this bundle over these replies
  abbrev pub IsRunOf : Command → Bundle → List Reply → Type 0
  IsRunOf (Mock setup replies) bundle given = Loads before now old new setup (Ok bundle) × Gives_replies before now replies (Ok given)
  IsRunOf (Check setup) bundle given = ⊥
  IsRunOf Unknown bundle given = ⊥

  module _ (command : Command) where
    -- ---- where a command asks anything of patterns

    -- the setup lists an overlay
    abbrev pub HasOverlay : Type 0
    HasOverlay = (setup : Json) × IsSetup before command setup × (items_at (codes "overlays") setup ≢ [])

    -- a criterion of the description is a pattern
    abbrev pub HasPattern : Type 0
    HasPattern = (setup description : Json) × IsSetup before command setup × IsDescription setup description × (patterns_in description ≢ [])

    -- a criterion of the run isn't a simple one
    abbrev pub HasJudgement : Type 0
    HasJudgement = (bundle : Bundle) × (replies : List Reply) × IsRunOf command bundle replies × (asks_patterns bundle ≡ true)

    -- of all that a command asks of patterns there is an answer, and none was too big; of one that asks nothing, nothing is said
    pub record ArePatternsSteady : Type 0 where
      -- what the targets of an overlay ask, whatever the overlay is applied to
      pub overlays : HasOverlay → (path label : List ℕ) (root tree : Json) (d : Document) → IsFileAt before path root → document label root ≡ Ok d → overlaid old.told d tree ≢ None
      -- whether the patterns of criteria have a reading
      pub readings : (setup description : Json) → IsSetup before command setup → IsDescription setup description → AreReadingsTold old.told description
      -- what the criteria of the run ask
      pub run : (bundle : Bundle) (replies : List Reply) → IsRunOf command bundle replies → asks_patterns bundle ≡ true → IsTold old.told bundle (answers replies)
      -- the count of patterns too big hasn't risen
      pub sized : HasOverlay ⊎ HasPattern ⊎ HasJudgement → PatternsRose old.too_big new.too_big → ⊥
