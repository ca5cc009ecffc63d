-- The words come to one ending.
use Rattle.std.proofs.Common.{◌≡◌, ◌≢◌, inr, ℕ, List, length, ◌≤◌, Bool, true, false, Result, Ok, Err, refl, sym, ◌∙◌, ap, subst}
use denote.Struct.Props.{props}
use Rattle.arz_rx.specs.Patterns.{PatternsView, Rose}
use Rattle.arz_world.specs.Outside.{FilesView}
use Rattle.arz_world.specs.declared.Reply.{Reply}
use Rattle.arz_flow.specs.declared.answers.End.{End}
use Rattle.arz_flow.specs.declared.bundle.Bundle.{Bundle}
use Rattle.arz_flow.specs.Executions.{asks, IsTold}
use Rattle.arz_flow.specs.Verdicts.{asks_patterns}
use Rattle.arz_flow.proofs.Simple.{needs_no_pattern}
use Rattle.arz_flow.specs.Valid.{steps_limit}
use Rattle.arz_bundle.specs.Loading.{Loads, Gives_replies}
use Rattle.arz_bundle.specs.declared.fault.LoadFault.{LoadFault}
use Rattle.arz_bundle.specs.declared.fault.LoadFault.TheVariants.{File as FileFault, Refused as RefusedFault, Pattern as PatternFault, Memory}
use Rattle.arz_session.specs.Mock.{HasEnded, Comes, IsMock, OnlyWhereRose, answers, lines_of}
use Rattle.arz_session.specs.Plain.{is_plain}
use Rattle.arz_session.specs.declared.session.Line.{Line}
use Rattle.arz_session.specs.declared.session.Outcome.{Outcome}
use Rattle.arz_session.specs.declared.session.Outcome.TheVariants.{Ended, Pattern as Cut}
use Rattle.arz_session.specs.declared.session.Session.{Session}
use Rattle.arz_top.specs.declared.words.Command.TheVariants.{Mock, Check, Unknown}
use Rattle.arz_top.specs.declared.ending.Ending.{Ending}
use Rattle.arz_top.specs.declared.ending.Ending.TheVariants.{Played}
use Rattle.arz_top.specs.Endings.{Faulted, Plays, FromBundle, Mocks, Stands, Checks}
use Rattle.arz_top.specs.Laws.{OneEnding}
use Rattle.arz_top.specs.Steady.{IsSteady, IsRunOf, ArePatternsSteady}
use Rattle.arz_top.proofs.Fronts.{one_front, one_end}
use Rattle.arz_top.proofs.Once.{loads-one, replies-one}

-- sessions of the same lines and outcome are one
few_prop : (lines : List Line) → IsProp (length lines ≤ steps_limit)
few_prop lines = hlevel props

plain_prop : (o : Outcome) → IsProp (is_plain o ≡ true)
plain_prop o = hlevel props

abbrev session : (lines : List Line) (o : Outcome) → length lines ≤ steps_limit → is_plain o ≡ true → Session
session lines o few plain = record { lines = lines; outcome = o; few = few; plain = plain }

module _ (lines : List Line) (o : Outcome) (few : length lines ≤ steps_limit) (plain : is_plain o ≡ true) where
  same_facts : (few' : length lines ≤ steps_limit) (plain' : is_plain o ≡ true) → session lines o few plain ≡ session lines o few' plain'
  same_facts few' plain' = ap (λ f. session lines o f plain) (few_prop lines few few') ∙ ap (λ p. session lines o few' p) (plain_prop o plain plain')

  same_lines : (lines' : List Line) → lines ≡ lines' → (few' : length lines' ≤ steps_limit) (plain' : is_plain o ≡ true) → session lines o few plain ≡ session lines' o few' plain'
  same_lines lines' same =
      let P : List Line → Type 0 = λ l. (few' : length l ≤ steps_limit) (plain' : is_plain o ≡ true) → session lines o few plain ≡ session l o few' plain' in
      subst P same same_facts

  same_parts : (lines' : List Line) (o' : Outcome) → lines ≡ lines' → o ≡ o' → (few' : length lines' ≤ steps_limit) (plain' : is_plain o' ≡ true) → session lines o few plain ≡ session lines' o' few' plain'
  same_parts lines' o' same same' few' =
      let P : Outcome → Type 0 = λ e. (plain' : is_plain e ≡ true) → session lines o few plain ≡ session lines' e few' plain' in
      subst P same' (same_lines lines' same few')

same_session : (s t : Session) → s.lines ≡ t.lines → s.outcome ≡ t.outcome → s ≡ t
same_session s t lines o = same_parts s.lines s.outcome s.few s.plain t.lines t.outcome lines o t.few t.plain

-- where all that a run needs of patterns is told, and none was too big, it comes to one session
module _ (old new : PatternsView) (b : Bundle) (replies : List Reply) (is-told : IsTold old.told b (answers replies)) (sized : asks_patterns b ≡ true → Rose old.too_big new.too_big → ⊥) where
  ends_one : (s t : Session) (e f : End) → s.outcome ≡ Ended e → t.outcome ≡ Ended f → HasEnded old.told b replies s.lines e → HasEnded old.told b replies t.lines f → s ≡ t
  ends_one s t e f p q m n =
      let used : m.used ≡ n.used = one_front old.told b m.used m.left n.used n.left e f (m.front ∙ sym n.front) m.fitting n.fitting m.end n.end m.all n.all in
      let end : e ≡ f = one_end old.told b m.used m.left n.used n.left e f (m.front ∙ sym n.front) m.fitting n.fitting m.end n.end m.all n.all in
      same_session s t (m.lines ∙ ap (λ u. lines_of (asks old.told b (answers u)) u) used ∙ sym n.lines) (p ∙ ap (λ x. Ended x) end ∙ sym q)

  not_cut : (o : Outcome) → OnlyWhereRose b old new o → o ≡ Cut → ⊥
  not_cut o rose is = let r = subst (OnlyWhereRose b old new) is rose in sized r.1 r.0

  mock_one : (s t : Session) → IsMock old.told b replies s → IsMock old.told b replies t → OnlyWhereRose b old new s.outcome → OnlyWhereRose b old new t.outcome → s ≡ t
  mock_one s t m n p q = go s.outcome t.outcome refl refl
    where
      go : (o u : Outcome) → s.outcome ≡ o → t.outcome ≡ u → s ≡ t
      go Cut u i j = absurd (not_cut s.outcome p i)
      go (Ended e) Cut i j = absurd (not_cut t.outcome q j)
      go (Ended e) (Ended f) i j = ends_one s t e f i j (subst (Comes old.told b replies s.lines) i (m is-told)) (subst (Comes old.told b replies t.lines) j (n is-told))

faulted_one : (fault : LoadFault) (e e' : Ending) → Faulted fault e → Faulted fault e' → e ≡ e'
faulted_one (FileFault path) e e' p q = p ∙ sym q
faulted_one (RefusedFault refusal) e e' p q = p ∙ sym q
faulted_one PatternFault e e' p q = p ∙ sym q
faulted_one Memory e e' p q = absurd p

-- want of memory is no ending
plays_some : (old new : PatternsView) (b : Bundle) (given : Result (List Reply) LoadFault) (e : Ending) → Plays old new b given e → given ≢ Err Memory
plays_some old new b given e plays is = subst (λ g. Plays old new b g e) is plays

module _ (before now : FilesView) (old new : PatternsView) (setup replies : List ℕ) (steady : IsSteady before now) (sure : ArePatternsSteady before now old new (Mock setup replies)) where
  -- a run of a loaded bundle over given replies
  module _ (b : Bundle) (given : List Reply) (run : IsRunOf before now old new (Mock setup replies) b given) where
    run_told : IsTold old.told b (answers given)
    run_told = go (asks_patterns b) refl
      where
        go : (asks : Bool) → asks_patterns b ≡ asks → IsTold old.told b (answers given)
        go true e = sure.run b given run e
        go false e = needs_no_pattern old.told b (answers given) e

    run_sized : asks_patterns b ≡ true → Rose old.too_big new.too_big → ⊥
    run_sized asks = sure.sized (inr (inr (b, given, run, asks)))

  plays_one : (b : Bundle) → Loads before now old new setup (Ok b) → (given : Result (List Reply) LoadFault) → Gives_replies before now replies given → (e e' : Ending) → Plays old new b given e → Plays old new b given e' → e ≡ e'
  plays_one b loads (Ok ys) gives e e' (s, m, r, is) (t, n, r', is') =
      let run : IsRunOf before now old new (Mock setup replies) b ys = (loads, gives) in
      is ∙ ap (λ (p : Session). Played p) (mock_one old new b ys (run_told b ys run) (run_sized b ys run) s t m n r r') ∙ sym is'
  plays_one b loads (Err fault) gives e e' p q = faulted_one fault e e' p q

  bundle_one : (loaded : Result Bundle LoadFault) → Loads before now old new setup loaded → (e e' : Ending) → FromBundle before now old new replies loaded e → FromBundle before now old new replies loaded e' → e ≡ e'
  bundle_one (Ok bundle) loads e e' (given, gives, plays) (given', gives', plays') =
      let same : given' ≡ given = replies-one before now steady replies given' given (plays_some old new bundle given' e' plays') (plays_some old new bundle given e plays) gives' gives in
      plays_one bundle loads given gives e e' plays (subst (λ g. Plays old new bundle g e') same plays')
  bundle_one (Err fault) loads e e' p q = faulted_one fault e e' p q

  bundle_some : (loaded : Result Bundle LoadFault) (e : Ending) → FromBundle before now old new replies loaded e → loaded ≢ Err Memory
  bundle_some loaded e came is = subst (λ l. FromBundle before now old new replies l e) is came

  mocks_one : (e e' : Ending) → Mocks before now old new replies setup e → Mocks before now old new replies setup e' → e ≡ e'
  mocks_one e e' (loaded, loads, came) (loaded', loads', came') =
      let same : loaded' ≡ loaded = loads-one before now old new (Mock setup replies) setup (λ j file. file) steady sure loaded' loaded (bundle_some loaded' e' came') (bundle_some loaded e came) loads' loads in
      bundle_one loaded loads e e' came (subst (λ l. FromBundle before now old new replies l e') same came')

stands_one : (loaded : Result Bundle LoadFault) (e e' : Ending) → Stands loaded e → Stands loaded e' → e ≡ e'
stands_one (Ok bundle) e e' p q = p ∙ sym q
stands_one (Err fault) e e' p q = faulted_one fault e e' p q

stands_some : (loaded : Result Bundle LoadFault) (e : Ending) → Stands loaded e → loaded ≢ Err Memory
stands_some loaded e came is = subst (λ l. Stands l e) is came

checks_one : (before now : FilesView) (old new : PatternsView) (setup : List ℕ) → IsSteady before now → ArePatternsSteady before now old new (Check setup) → (e e' : Ending) → Checks before now old new setup e → Checks before now old new setup e' → e ≡ e'
checks_one before now old new setup steady sure e e' (loaded, loads, came) (loaded', loads', came') =
    let same : loaded' ≡ loaded = loads-one before now old new (Check setup) setup (λ j file. file) steady sure loaded' loaded (stands_some loaded' e' came') (stands_some loaded e came) loads' loads in
    stands_one loaded e e' came (subst (λ l. Stands l e') same came')

pub one_ending : OneEnding
one_ending before now old new Unknown e e' steady sure p q = p ∙ sym q
one_ending before now old new (Check setup) e e' steady sure p q = checks_one before now old new setup steady sure e e' p q
one_ending before now old new (Mock setup replies) e e' steady sure p q = mocks_one before now old new setup replies steady sure e e' p q
