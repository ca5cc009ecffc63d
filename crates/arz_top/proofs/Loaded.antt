-- What calls in a row come to, of which one loads the bundle, one the replies, and one runs it over them.
use Rattle.std.proofs.Common.{◌≤◌, ℕ, List, Result, Ok, Err, subst, arith}
use Rattle.arz_path.specs.Results.{Asked}
use Rattle.arz_rx.specs.Patterns.{PatternsView, Rose}
use Rattle.arz_world.specs.Outside.{FilesView}
use Rattle.arz_world.specs.declared.Reply.{Reply}
use Rattle.arz_flow.specs.declared.bundle.Bundle.{Bundle}
use Rattle.arz_bundle.specs.declared.fault.LoadFault.{LoadFault}
use Rattle.arz_bundle.specs.Loading.{Loads, Gives_replies}
use Rattle.arz_bundle.proofs.Wholes.{Later, files-begin, files-end, patterns-begin, loads-whole, replies-whole}
use Rattle.arz_session.specs.Mock.{IsMock, OnlyWhereRose}
use Rattle.arz_session.specs.declared.session.Outcome.{Outcome}
use Rattle.arz_session.specs.declared.session.Outcome.TheVariants.{Ended, Pattern as Cut}
use Rattle.arz_top.specs.declared.ending.Ending.{Ending}
use Rattle.arz_top.specs.Endings.{Faulted, Plays, Mocks}

rose-earlier : (a b now : ℕ) → a ≤ b → Rose b now → Rose a now
rose-earlier a b now le rose = omega arith

-- mid: what the patterns show after the bundle was loaded
module _ (old mid new : PatternsView) (earlier : Asked old mid) where
  rose-whole : (bundle : Bundle) (o : Outcome) → OnlyWhereRose bundle mid new o → OnlyWhereRose bundle old new o
  rose-whole bundle (Ended e) rose = tt
  rose-whole bundle Cut rose = (rose-earlier old.too_big mid.too_big new.too_big earlier.count rose.0, rose.1)

  plays-whole : (bundle : Bundle) (given : Result (List Reply) LoadFault) (e : Ending) → Plays mid new bundle given e → Plays old new bundle given e
  plays-whole bundle (Ok replies) e (session, mock, rose, is) =
      (session, subst (λ t. IsMock t bundle replies session) earlier.told mock, rose-whole bundle session.outcome rose, is)
  plays-whole bundle (Err fault) e told = told

  -- between: what the files show between the calls
  module _ (before between now : FilesView) (first : Later before between) (second : Later between now) (later : Asked mid new) (setup replies : List ℕ) where
    pub mocks : (bundle : Bundle) (given : Result (List Reply) LoadFault) (e : Ending)
        → Loads before between old mid setup (Ok bundle) → Gives_replies between now replies given → Plays mid new bundle given e → Mocks before now old new replies setup e
    mocks bundle given e loads gives plays = (
      Ok bundle,
      loads-whole before between before now (files-begin before between now second) old mid old new (patterns-begin old mid new later) (Ok bundle) setup loads,
      (given, replies-whole between now before now (files-end before between now first) replies given gives, plays-whole bundle given e plays),
    )

pub faulted : (before now : FilesView) (old new : PatternsView) (setup replies : List ℕ) (fault : LoadFault) (e : Ending) → Loads before now old new setup (Err fault) → Faulted fault e → Mocks before now old new replies setup e
faulted before now old new setup replies fault e loads told = (Err fault, loads, told)
