-- Statements of the laws of loading.
use Rattle.std.specs.Prelude.{◌≡◌, ◌≢◌, ℕ, List, All, None, Some}
use Rattle.std.specs.declared.result.Result.{Result}
use Rattle.std.specs.declared.result.Result.TheVariants.{Ok, Err}
use Rattle.arz_rx.specs.Patterns.{PatternsView}
use Rattle.arz_world.specs.Outside.{FilesView, Rose}
use Rattle.arz_world.specs.declared.Reply.{Reply}
use Rattle.arz_flow.specs.declared.bundle.Bundle.{Bundle}
use Rattle.arz_flow.specs.Valid.{IsValid}
use Rattle.arz_bundle.specs.declared.fault.LoadFault.{LoadFault}
use Rattle.arz_bundle.specs.declared.fault.LoadFault.TheVariants.{Memory}
use Rattle.arz_bundle.specs.Loading.{Loads, Gives_replies}
use Rattle.arz_bundle.specs.Replies.{HasStatus}

-- where it is told that no file is there, a read of the path has failed
abbrev pub MissingFail : (before now : FilesView) → Type 0
MissingFail before now = (path : List ℕ) → before.told path ≡ Some None → Rose (before.faults path) (now.faults path)

-- Whatever the files hold and whatever is told of patterns, loading comes to something else than want of memory.
abbrev pub LoadsSome : Type 0
LoadsSome = (before now : FilesView) (old new : PatternsView) → MissingFail before now → (path : List ℕ) → (x : Result Bundle LoadFault) × Loads before now old new path x × (x ≢ Err Memory)

-- So do the replies.
abbrev pub GivesSome : Type 0
GivesSome = (before now : FilesView) → MissingFail before now → (path : List ℕ) → (x : Result (List Reply) LoadFault) × Gives_replies before now path x × (x ≢ Err Memory)

-- A bundle that is loaded is valid.
abbrev pub LoadsValid : Type 0
LoadsValid = (before now : FilesView) (old new : PatternsView) (path : List ℕ) (b : Bundle) → Loads before now old new path (Ok b) → IsValid b

-- Replies that are given have a status of 200 to 599.
abbrev pub GivesStatuses : Type 0
GivesStatuses = (before now : FilesView) (path : List ℕ) (replies : List Reply) → Gives_replies before now path (Ok replies) → All HasStatus replies
