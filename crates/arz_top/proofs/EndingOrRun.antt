-- The words come to an ending, or the files give what is run.
use Rattle.std.proofs.Common.{◌≡◌, ◌≢◌, ◌⊎◌, inl, inr, ℕ, List, Result, Ok, Err, refl, ap, ◌∙◌}
use Rattle.arz_rx.specs.Patterns.{PatternsView}
use Rattle.arz_world.specs.Outside.{FilesView}
use Rattle.arz_world.specs.declared.Reply.{Reply}
use Rattle.arz_flow.specs.declared.bundle.Bundle.{Bundle}
use Rattle.arz_bundle.specs.declared.fault.LoadFault.{LoadFault}
use Rattle.arz_bundle.specs.declared.fault.LoadFault.TheVariants.{File as FileFault, Refused as RefusedFault, Pattern as PatternFault, Memory}
use Rattle.arz_bundle.specs.Laws.{MissingFail}
use Rattle.arz_bundle.specs.Loading.{Loads, Gives_replies}
use Rattle.arz_bundle.proofs.LoadingLaws.{loads_some, gives_some, loads_valid}
use Rattle.arz_session.proofs.EndsOver.{ends_over}
use Rattle.arz_top.specs.declared.words.Command.TheVariants.{Mock, Check, Unknown}
use Rattle.arz_top.specs.declared.ending.Ending.{Ending}
use Rattle.arz_top.specs.declared.ending.Ending.TheVariants.{Words, File, Refused, Pattern, Ready}
use Rattle.arz_top.specs.Endings.{Faulted, Checks, Mocks}
use Rattle.arz_top.specs.Laws.{IsRun, EndingOrRun}

-- the ending of files that give nothing
faulted-some : (fault : LoadFault) → fault ≢ Memory → (e : Ending) × Faulted fault e
faulted-some (FileFault path) some = (File path, refl)
faulted-some (RefusedFault refusal) some = (Refused refusal, refl)
faulted-some PatternFault some = (Pattern, refl)
faulted-some Memory some = absurd (some refl)

fault-of : {A : Type 0} (x : Result A LoadFault) (fault : LoadFault) → x ≡ Err fault → x ≢ Err Memory → fault ≢ Memory
fault-of x fault is some memory = some (is ∙ ap (λ f. Err f) memory)

module _ (before now : FilesView) (old new : PatternsView) (missing : MissingFail before now) where
  checked : (setup : List ℕ) (x : Result Bundle LoadFault) → Loads before now old new setup x → x ≢ Err Memory → (e : Ending) × Checks before now old new setup e
  checked setup (Ok bundle) loads some = (Ready, (Ok bundle, loads, refl))
  checked setup (Err fault) loads some =
      let e = faulted-some fault (fault-of (Err fault) fault refl some) in
      (e.0, (Err fault, loads, e.1))

  abbrev Came : (setup replies : List ℕ) → Type 0
  Came setup replies = ((e : Ending) × Mocks before now old new replies setup e) ⊎ IsRun before now old new (Mock setup replies)

  given : (setup replies : List ℕ) (bundle : Bundle) → Loads before now old new setup (Ok bundle) → (y : Result (List Reply) LoadFault) → Gives_replies before now replies y → y ≢ Err Memory
      → Came setup replies
  given setup replies bundle loads (Ok replied) gives some = inr (bundle, replied, (loads, gives), ends_over old.told bundle replied (loads_valid before now old new setup bundle loads))
  given setup replies bundle loads (Err fault) gives some =
      let e = faulted-some fault (fault-of (Err fault) fault refl some) in
      inl (e.0, (Ok bundle, loads, (Err fault, gives, e.1)))

  mocked : (setup replies : List ℕ) (x : Result Bundle LoadFault) → Loads before now old new setup x → x ≢ Err Memory → Came setup replies
  mocked setup replies (Ok bundle) loads some =
      let y = gives_some before now missing replies in
      given setup replies bundle loads y.0 y.1 y.2
  mocked setup replies (Err fault) loads some =
      let e = faulted-some fault (fault-of (Err fault) fault refl some) in
      inl (e.0, (Err fault, loads, e.1))

pub ending_or_run : EndingOrRun
ending_or_run before now old new Unknown missing = inl (Words, refl)
ending_or_run before now old new (Check setup) missing = let x = loads_some before now old new missing setup in inl (checked before now old new missing setup x.0 x.1 x.2)
ending_or_run before now old new (Mock setup replies) missing = let x = loads_some before now old new missing setup in mocked before now old new missing setup replies x.0 x.1 x.2
