-- What a command comes to.
use Rattle.std.specs.Prelude.{◌≡◌, ℕ, List}
use Rattle.std.specs.declared.result.Result.{Result}
use Rattle.std.specs.declared.result.Result.TheVariants.{Ok, Err}
use Rattle.arz_rx.specs.Patterns.{PatternsView}
use Rattle.arz_world.specs.Outside.{FilesView}
use Rattle.arz_world.specs.declared.Reply.{Reply}
use Rattle.arz_flow.specs.declared.bundle.Bundle.{Bundle}
use Rattle.arz_bundle.specs.declared.fault.LoadFault.{LoadFault}
use Rattle.arz_bundle.specs.declared.fault.LoadFault.TheVariants.{File as FileFault, Refused as RefusedFault, Pattern as PatternFault, Memory}
use Rattle.arz_bundle.specs.Loading.{Loads, Gives_replies}
use Rattle.arz_top.specs.declared.words.Command.{Command}
use Rattle.arz_top.specs.declared.words.Command.TheVariants.{Mock, Check, Unknown}
use Rattle.arz_session.specs.declared.session.Session.{Session}
use Rattle.arz_top.specs.declared.ending.Ending.{Ending}
use Rattle.arz_top.specs.declared.ending.Ending.TheVariants.{Words, File, Refused, Pattern, Ready, Played}
use Rattle.arz_session.specs.Mock.{IsMock, OnlyWhereRose}

-- where files give nothing, the ending tells why; want of memory comes to no ending
abbrev pub Faulted : LoadFault → Ending → Type 0
Faulted (FileFault path) ending = ending ≡ File path
Faulted (RefusedFault refusal) ending = ending ≡ Refused refusal
Faulted PatternFault ending = ending ≡ Pattern
Faulted Memory ending = ⊥

-- the execution over the replies, where there are replies; old, new: what the patterns show at the call's beginning and end
abbrev pub Plays : (old new : PatternsView) → Bundle → Result (List Reply) LoadFault → Ending → Type 0
Plays old new bundle (Ok replies) ending =
    (session : Session) × IsMock old.told bundle replies session × OnlyWhereRose bundle old new session.outcome × (ending ≡ Played session)
Plays old new bundle (Err fault) ending = Faulted fault ending

-- nothing more, where the files give a bundle
abbrev pub Stands : Result Bundle LoadFault → Ending → Type 0
Stands (Ok bundle) ending = ending ≡ Ready
Stands (Err fault) ending = Faulted fault ending

-- before, now, old, new: what the files and the patterns show at the call's beginning and end
module _ (before now : FilesView) (old new : PatternsView) (replies : List ℕ) where
  abbrev pub FromReplies : Bundle → Ending → Type 0
  FromReplies bundle ending = (given : Result (List Reply) LoadFault) × Gives_replies before now replies given × Plays old new bundle given ending

  abbrev pub FromBundle : Result Bundle LoadFault → Ending → Type 0
  FromBundle (Ok bundle) ending = FromReplies bundle ending
  FromBundle (Err fault) ending = Faulted fault ending

  -- the files of the setup and then the replies
  abbrev pub Mocks : List ℕ → Ending → Type 0
  Mocks setup ending = (loaded : Result Bundle LoadFault) × Loads before now old new setup loaded × FromBundle loaded ending

module _ (before now : FilesView) (old new : PatternsView) where
  -- the files of the setup alone
  abbrev pub Checks : List ℕ → Ending → Type 0
  Checks setup ending = (loaded : Result Bundle LoadFault) × Loads before now old new setup loaded × Stands loaded ending

  -- what these words come to
  abbrev pub Comes : Command → Ending → Type 0
  Comes Unknown ending = ending ≡ Words
  Comes (Check setup) ending = Checks setup ending
  Comes (Mock setup replies) ending = Mocks before now old new replies setup ending
