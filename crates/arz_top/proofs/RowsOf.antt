-- The rows follow from how a call ends.
use Rattle.std.proofs.Common.{◌≡◌, ◌⊎◌, inl, inr, ℕ, ◌+◌, List, [], ◌++◌, length, codes, refl, sym, ◌∙◌, ap, arith, subst, Result, Ok, Err}
use Rattle.arz_json.specs.declared.Member.{Member}
use Rattle.arz_json.specs.declared.Refusal.{Refusal}
use Rattle.arz_rx.specs.Patterns.{PatternsView, Rose as PatternsRose}
use Rattle.arz_world.specs.Outside.{Gains, Rose, FilesView, SinkView}
use Rattle.arz_world.specs.declared.Reply.{Reply}
use Rattle.arz_flow.specs.declared.answers.Ask.{Ask}
use Rattle.arz_request.specs.declared.cause.Cause.{Cause}
use Rattle.arz_flow.specs.declared.answers.Spot.{Spot}
use Rattle.arz_flow.specs.declared.answers.End.{End}
use Rattle.arz_flow.specs.declared.answers.End.TheVariants.{Completed, Broke, Out, Stuck, Budget}
use Rattle.arz_flow.specs.declared.bundle.Bundle.{Bundle}
use Rattle.arz_bundle.specs.declared.fault.LoadFault.{LoadFault}
use Rattle.arz_bundle.specs.declared.fault.LoadFault.TheVariants.{File as FileFault, Refused as RefusedFault, Pattern as PatternFault, Memory}
use Rattle.arz_bundle.specs.Loading.{Loads, Gives_replies}
use Rattle.arz_bundle.proofs.Risen.{Caused as CausedBy, loads-caused, replies-caused}
use Rattle.arz_top.specs.declared.words.Command.{Command}
use Rattle.arz_top.specs.declared.words.Command.TheVariants.{Mock, Check, Unknown}
use Rattle.arz_session.specs.Mock.{OnlyWhereRose}
use Rattle.arz_session.specs.declared.session.Line.{Line}
use Rattle.arz_session.specs.declared.session.Outcome.{Outcome}
use Rattle.arz_session.specs.declared.session.Outcome.TheVariants.{Ended, Pattern as Cut}
use Rattle.arz_session.specs.declared.session.Session.{Session}
use Rattle.arz_top.specs.declared.ending.Ending.{Ending}
use Rattle.arz_top.specs.declared.ending.Ending.TheVariants.{Words, File, Refused, Pattern, Ready, Played}
use Rattle.arz_top.specs.Endings.{Faulted, Plays, FromBundle, Mocks, Checks, Comes}
use Rattle.arz_top.specs.Report.{line, ask_lines, outcome_lines, report, status, end_status, outcome_status}
use Rattle.arz_top.specs.Ends.{Ends, Whole}
use Rattle.arz_top.specs.Rows.{Rows}
use Rattle.arz_top.specs.Exact.{Exact}
use Rattle.arz_top.proofs.OneEnding.{one_ending}
use Rattle.arz_top.proofs.Printed.{Gains-wider}

-- ---- which ending has which status

-- an end has one of these statuses
not : (x : End) (n : ℕ) → (0 ≡ n → ⊥) → (1 ≡ n → ⊥) → (6 ≡ n → ⊥) → (7 ≡ n → ⊥) → (14 ≡ n → ⊥) → end_status x ≡ n → ⊥
not (Completed outputs) n a b c d e st = a st
not (Broke outputs) n a b c d e st = b st
not (Budget limit) n a b c d e st = c st
not (Stuck cause at) n a b c d e st = d st
not (Out ask) n a b c d e st = e st

ended-0 : (s : Session) (o : Outcome) → s.outcome ≡ o → outcome_status o ≡ 0 → (outputs : List Member) × (s.outcome ≡ Ended (Completed outputs))
ended-0 s (Ended (Completed outputs)) is st = (outputs, is)
ended-0 s (Ended (Broke outputs)) is st = absurd (omega (arith, st))
ended-0 s (Ended (Budget limit)) is st = absurd (omega (arith, st))
ended-0 s (Ended (Stuck cause at)) is st = absurd (omega (arith, st))
ended-0 s (Ended (Out ask)) is st = absurd (omega (arith, st))
ended-0 s Cut is st = absurd (omega (arith, st))

ended-1 : (s : Session) (o : Outcome) → s.outcome ≡ o → outcome_status o ≡ 1 → (outputs : List Member) × (s.outcome ≡ Ended (Broke outputs))
ended-1 s (Ended (Completed outputs)) is st = absurd (omega (arith, st))
ended-1 s (Ended (Broke outputs)) is st = (outputs, is)
ended-1 s (Ended (Budget limit)) is st = absurd (omega (arith, st))
ended-1 s (Ended (Stuck cause at)) is st = absurd (omega (arith, st))
ended-1 s (Ended (Out ask)) is st = absurd (omega (arith, st))
ended-1 s Cut is st = absurd (omega (arith, st))

ended-6 : (s : Session) (o : Outcome) → s.outcome ≡ o → outcome_status o ≡ 6 → (limit : ℕ) × (s.outcome ≡ Ended (Budget limit))
ended-6 s (Ended (Completed outputs)) is st = absurd (omega (arith, st))
ended-6 s (Ended (Broke outputs)) is st = absurd (omega (arith, st))
ended-6 s (Ended (Budget limit)) is st = (limit, is)
ended-6 s (Ended (Stuck cause at)) is st = absurd (omega (arith, st))
ended-6 s (Ended (Out ask)) is st = absurd (omega (arith, st))
ended-6 s Cut is st = absurd (omega (arith, st))

ended-7 : (s : Session) (o : Outcome) → s.outcome ≡ o → outcome_status o ≡ 7 → (cause : Cause) × (at : Spot) × (s.outcome ≡ Ended (Stuck cause at))
ended-7 s (Ended (Completed outputs)) is st = absurd (omega (arith, st))
ended-7 s (Ended (Broke outputs)) is st = absurd (omega (arith, st))
ended-7 s (Ended (Budget limit)) is st = absurd (omega (arith, st))
ended-7 s (Ended (Stuck cause at)) is st = (cause, at, is)
ended-7 s (Ended (Out ask)) is st = absurd (omega (arith, st))
ended-7 s Cut is st = absurd (omega (arith, st))

ended-14 : (s : Session) (o : Outcome) → s.outcome ≡ o → outcome_status o ≡ 14 → (ask : Ask) × (s.outcome ≡ Ended (Out ask))
ended-14 s (Ended (Completed outputs)) is st = absurd (omega (arith, st))
ended-14 s (Ended (Broke outputs)) is st = absurd (omega (arith, st))
ended-14 s (Ended (Budget limit)) is st = absurd (omega (arith, st))
ended-14 s (Ended (Stuck cause at)) is st = absurd (omega (arith, st))
ended-14 s (Ended (Out ask)) is st = (ask, is)
ended-14 s Cut is st = absurd (omega (arith, st))

ended-15 : (s : Session) (o : Outcome) → s.outcome ≡ o → outcome_status o ≡ 15 → s.outcome ≡ Cut
ended-15 s (Ended e) is st = absurd (not e 15 (λ h. omega (arith, h)) (λ h. omega (arith, h)) (λ h. omega (arith, h)) (λ h. omega (arith, h)) (λ h. omega (arith, h)) st)
ended-15 s Cut is st = is

-- an outcome has the status of an end, or 15
other : (o : Outcome) (n : ℕ) → (0 ≡ n → ⊥) → (1 ≡ n → ⊥) → (6 ≡ n → ⊥) → (7 ≡ n → ⊥) → (14 ≡ n → ⊥) → (15 ≡ n → ⊥) → outcome_status o ≡ n → ⊥
other (Ended e) n a b c d f g st = not e n a b c d f st
other Cut n a b c d f g st = g st

at-0 : (e : Ending) → status e ≡ 0 → ((s : Session) × (outputs : List Member) × (e ≡ Played s) × (s.outcome ≡ Ended (Completed outputs))) ⊎ (e ≡ Ready)
at-0 Words st = absurd (omega (arith, st))
at-0 (File path) st = absurd (omega (arith, st))
at-0 (Refused refusal) st = absurd (omega (arith, st))
at-0 Pattern st = absurd (omega (arith, st))
at-0 Ready st = inr refl
at-0 (Played s) st = let o = ended-0 s s.outcome refl st in inl (s, o.0, refl, o.1)

at-1 : (e : Ending) → status e ≡ 1 → (s : Session) × (outputs : List Member) × (e ≡ Played s) × (s.outcome ≡ Ended (Broke outputs))
at-1 Words st = absurd (omega (arith, st))
at-1 (File path) st = absurd (omega (arith, st))
at-1 (Refused refusal) st = absurd (omega (arith, st))
at-1 Pattern st = absurd (omega (arith, st))
at-1 Ready st = absurd (omega (arith, st))
at-1 (Played s) st = let o = ended-1 s s.outcome refl st in (s, o.0, refl, o.1)

at-6 : (e : Ending) → status e ≡ 6 → (s : Session) × (limit : ℕ) × (e ≡ Played s) × (s.outcome ≡ Ended (Budget limit))
at-6 Words st = absurd (omega (arith, st))
at-6 (File path) st = absurd (omega (arith, st))
at-6 (Refused refusal) st = absurd (omega (arith, st))
at-6 Pattern st = absurd (omega (arith, st))
at-6 Ready st = absurd (omega (arith, st))
at-6 (Played s) st = let o = ended-6 s s.outcome refl st in (s, o.0, refl, o.1)

at-7 : (e : Ending) → status e ≡ 7 → (s : Session) × (cause : Cause) × (at : Spot) × (e ≡ Played s) × (s.outcome ≡ Ended (Stuck cause at))
at-7 Words st = absurd (omega (arith, st))
at-7 (File path) st = absurd (omega (arith, st))
at-7 (Refused refusal) st = absurd (omega (arith, st))
at-7 Pattern st = absurd (omega (arith, st))
at-7 Ready st = absurd (omega (arith, st))
at-7 (Played s) st = let o = ended-7 s s.outcome refl st in (s, o.0, o.1, refl, o.2)

at-3 : (e : Ending) → status e ≡ 3 → (refusal : Refusal) × (e ≡ Refused refusal)
at-3 Words st = absurd (omega (arith, st))
at-3 (File path) st = absurd (omega (arith, st))
at-3 (Refused refusal) st = (refusal, refl)
at-3 Pattern st = absurd (omega (arith, st))
at-3 Ready st = absurd (omega (arith, st))
at-3 (Played s) st = absurd (other s.outcome 3 (λ h. omega (arith, h)) (λ h. omega (arith, h)) (λ h. omega (arith, h)) (λ h. omega (arith, h)) (λ h. omega (arith, h)) (λ h. omega (arith, h)) st)

at-13 : (e : Ending) → status e ≡ 13 → (path : List ℕ) × (e ≡ File path)
at-13 Words st = absurd (omega (arith, st))
at-13 (File path) st = (path, refl)
at-13 (Refused refusal) st = absurd (omega (arith, st))
at-13 Pattern st = absurd (omega (arith, st))
at-13 Ready st = absurd (omega (arith, st))
at-13 (Played s) st = absurd (other s.outcome 13 (λ h. omega (arith, h)) (λ h. omega (arith, h)) (λ h. omega (arith, h)) (λ h. omega (arith, h)) (λ h. omega (arith, h)) (λ h. omega (arith, h)) st)

at-14 : (e : Ending) → status e ≡ 14 → (s : Session) × (ask : Ask) × (e ≡ Played s) × (s.outcome ≡ Ended (Out ask))
at-14 Words st = absurd (omega (arith, st))
at-14 (File path) st = absurd (omega (arith, st))
at-14 (Refused refusal) st = absurd (omega (arith, st))
at-14 Pattern st = absurd (omega (arith, st))
at-14 Ready st = absurd (omega (arith, st))
at-14 (Played s) st = let o = ended-14 s s.outcome refl st in (s, o.0, refl, o.1)

at-15 : (e : Ending) → status e ≡ 15 → (e ≡ Pattern) ⊎ ((s : Session) × (e ≡ Played s) × (s.outcome ≡ Cut))
at-15 Words st = absurd (omega (arith, st))
at-15 (File path) st = absurd (omega (arith, st))
at-15 (Refused refusal) st = absurd (omega (arith, st))
at-15 Pattern st = inl refl
at-15 Ready st = absurd (omega (arith, st))
at-15 (Played s) st = inr (s, refl, ended-15 s s.outcome refl st)

-- no ending has the status of a failed sink
never-10 : (e : Ending) → status e ≡ 10 → ⊥
never-10 Words st = omega (arith, st)
never-10 (File path) st = omega (arith, st)
never-10 (Refused refusal) st = omega (arith, st)
never-10 Pattern st = omega (arith, st)
never-10 Ready st = omega (arith, st)
never-10 (Played s) st = other s.outcome 10 (λ h. omega (arith, h)) (λ h. omega (arith, h)) (λ h. omega (arith, h)) (λ h. omega (arith, h)) (λ h. omega (arith, h)) (λ h. omega (arith, h)) st

-- ---- what a command comes to

module _ (files files_now : FilesView) (patterns patterns_now : PatternsView) where
  -- no command comes to the ending of other words, a file that is told of has failed, and where a pattern was too big, their count has risen
  abbrev CausedOutcome : Outcome → Type 0
  CausedOutcome (Ended e) = Unit {0}
  CausedOutcome Cut = PatternsRose patterns.too_big patterns_now.too_big

  caused-outcome : (bundle : Bundle) (o : Outcome) → OnlyWhereRose bundle patterns patterns_now o → CausedOutcome o
  caused-outcome bundle (Ended e) rose = tt
  caused-outcome bundle Cut rose = rose.0

  abbrev Caused : Ending → Type 0
  Caused Words = ⊥
  Caused (File path) = Rose (files.faults path) (files_now.faults path)
  Caused (Refused refusal) = Unit {0}
  Caused Pattern = PatternsRose patterns.too_big patterns_now.too_big
  Caused Ready = Unit {0}
  Caused (Played session) = CausedOutcome session.outcome

  caused-fault : (fault : LoadFault) (e : Ending) → CausedBy files files_now patterns patterns_now fault → Faulted fault e → Caused e
  caused-fault (FileFault path) e c is = subst Caused (sym is) c
  caused-fault (RefusedFault refusal) e c is = subst Caused (sym is) tt
  caused-fault PatternFault e c is = subst Caused (sym is) c
  caused-fault Memory e c is = absurd is

  caused-plays : (bundle : Bundle) (path : List ℕ) (x : Result (List Reply) LoadFault) (e : Ending) → Gives_replies files files_now path x → Plays patterns patterns_now bundle x e → Caused e
  caused-plays bundle path (Ok replies) e gives (session, mock, rose, is) = subst Caused (sym is) (caused-outcome bundle session.outcome rose)
  caused-plays bundle path (Err fault) e gives told =
      caused-fault fault e (replies-caused files files_now patterns patterns_now (Err fault) path gives fault refl) told

  caused-bundle : (setup replies : List ℕ) (x : Result Bundle LoadFault) (e : Ending) → Loads files files_now patterns patterns_now setup x → FromBundle files files_now patterns patterns_now replies x e → Caused e
  caused-bundle setup replies (Ok bundle) e loads (x, gives, plays) = caused-plays bundle replies x e gives plays
  caused-bundle setup replies (Err fault) e loads told =
      caused-fault fault e (loads-caused files files_now patterns patterns_now (Err fault) setup loads fault refl) told

  caused-setup : (setup replies : List ℕ) (e : Ending) → Mocks files files_now patterns patterns_now replies setup e → Caused e
  caused-setup setup replies e (x, loads, goes) = caused-bundle setup replies x e loads goes

  caused-check : (setup : List ℕ) (e : Ending) → Checks files files_now patterns patterns_now setup e → Caused e
  caused-check setup e (Ok bundle, loads, is) = subst Caused (sym is) tt
  caused-check setup e (Err fault, loads, told) =
      caused-fault fault e (loads-caused files files_now patterns patterns_now (Err fault) setup loads fault refl) told

  not-words : (e : Ending) → Caused e → status e ≡ 2 → ⊥
  not-words Words c st = c
  not-words (File path) c st = omega (arith, st)
  not-words (Refused refusal) c st = omega (arith, st)
  not-words Pattern c st = omega (arith, st)
  not-words Ready c st = omega (arith, st)
  not-words (Played s) c st = other s.outcome 2 (λ h. omega (arith, h)) (λ h. omega (arith, h)) (λ h. omega (arith, h)) (λ h. omega (arith, h)) (λ h. omega (arith, h)) (λ h. omega (arith, h)) st

  words-only : (command : Command) (e : Ending) → Comes files files_now patterns patterns_now command e → status e ≡ 2 → command ≡ Unknown
  words-only Unknown e came st = refl
  words-only (Check setup) e came st = absurd (not-words e (caused-check setup e came) st)
  words-only (Mock setup replies) e came st = absurd (not-words e (caused-setup setup replies e came) st)

  words-status : (e : Ending) → Comes files files_now patterns patterns_now Unknown e → status e ≡ 2
  words-status e came = ap status came

  file-cause : (command : Command) (path : List ℕ) → Comes files files_now patterns patterns_now command (File path) → Rose (files.faults path) (files_now.faults path)
  file-cause Unknown path came = absurd (let n : 13 ≡ 2 = ap status came in omega (arith, n))
  file-cause (Check setup) path came = caused-check setup (File path) came
  file-cause (Mock setup replies) path came = caused-setup setup replies (File path) came

  -- an ending of this status has its cause
  pattern-cause : (command : Command) (e : Ending) → Comes files files_now patterns patterns_now command e → status e ≡ 15 → Caused e
  pattern-cause Unknown e came st = absurd (let n : 15 ≡ 2 = sym st ∙ ap status came in omega (arith, n))
  pattern-cause (Check setup) e came st = caused-check setup e came
  pattern-cause (Mock setup replies) e came st = caused-setup setup replies e came

  abbrev Printed : Ending → List ℕ → Type 0
  Printed e added = (lines : List Line) × (added ≡ ask_lines lines ++ line (codes "pattern"))

  -- the report of such an ending
  pattern-report : (e : Ending) → status e ≡ 15 → (added : List ℕ) → added ≡ report e → Printed e added
  pattern-report e st added is = go (at-15 e st)
    where
      go : ((e ≡ Pattern) ⊎ ((s : Session) × (e ≡ Played s) × (s.outcome ≡ Cut))) → Printed e added
      go (inl p) = ([], is ∙ ap report p)
      go (inr (s, p, o)) = (s.lines, is ∙ ap report p ∙ ap (λ x. ask_lines s.lines ++ outcome_lines (length s.lines + 1) x) o)

  pattern-rose : (e : Ending) → status e ≡ 15 → Caused e → PatternsRose patterns.too_big patterns_now.too_big
  pattern-rose e st c = go (at-15 e st)
    where
      go : ((e ≡ Pattern) ⊎ ((s : Session) × (e ≡ Played s) × (s.outcome ≡ Cut))) → PatternsRose patterns.too_big patterns_now.too_big
      go (inl p) = subst Caused p c
      go (inr (s, p, o)) = subst CausedOutcome o (subst Caused p c)

  -- only files that are checked, and that give a bundle, come to the ending of such

  ready-faulted : (fault : LoadFault) → Faulted fault Ready → ⊥
  ready-faulted (FileFault path) is = cc
  ready-faulted (RefusedFault refusal) is = cc
  ready-faulted PatternFault is = cc
  ready-faulted Memory is = is

  ready-plays : (bundle : Bundle) (given : Result (List Reply) LoadFault) → Plays patterns patterns_now bundle given Ready → ⊥
  ready-plays bundle (Ok replies) (session, mock, rose, is) = cc
  ready-plays bundle (Err fault) told = ready-faulted fault told

  ready-bundle : (replies : List ℕ) (loaded : Result Bundle LoadFault) → FromBundle files files_now patterns patterns_now replies loaded Ready → ⊥
  ready-bundle replies (Ok bundle) (given, gives, plays) = ready-plays bundle given plays
  ready-bundle replies (Err fault) told = ready-faulted fault told

  abbrev Gave : Command → Type 0
  Gave command = (setup : List ℕ) × (bundle : Bundle) × (command ≡ Check setup) × Loads files files_now patterns patterns_now setup (Ok bundle)

  ready-check : (setup : List ℕ) → Checks files files_now patterns patterns_now setup Ready → Gave (Check setup)
  ready-check setup (Ok bundle, loads, is) = (setup, bundle, refl, loads)
  ready-check setup (Err fault, loads, told) = absurd (ready-faulted fault told)

  ready-only : (command : Command) → Comes files files_now patterns patterns_now command Ready → Gave command
  ready-only Unknown came = absurd (cc)
  ready-only (Check setup) came = ready-check setup came
  ready-only (Mock setup replies) (loaded, loads, came) = absurd (ready-bundle replies loaded came)

-- where the words come to one ending alone, each answer tells it
exactly : (Came : Ending → Type 0) (answer : ℕ) (e : Ending) → answer ≡ status e → ((other : Ending) → Came other → e ≡ other) → Exact Came answer
exactly Came answer e answered one = record {
  ready = λ came. answered ∙ ap status (one Ready came);
  completed = λ s outputs came is. answered ∙ ap status (one (Played s) came) ∙ ap outcome_status is;
  broke = λ s outputs came is. answered ∙ ap status (one (Played s) came) ∙ ap outcome_status is;
  words = λ came. answered ∙ ap status (one Words came);
  file = λ path came. answered ∙ ap status (one (File path) came);
  refused = λ refusal came. answered ∙ ap status (one (Refused refusal) came);
  pattern = λ came. answered ∙ ap status (one Pattern came);
  cut = λ s came is. answered ∙ ap status (one (Played s) came) ∙ ap outcome_status is;
  budget = λ s limit came is. answered ∙ ap status (one (Played s) came) ∙ ap outcome_status is;
  stuck = λ s cause at came is. answered ∙ ap status (one (Played s) came) ∙ ap outcome_status is;
  out = λ s ask came is. answered ∙ ap status (one (Played s) came) ∙ ap outcome_status is;
}

module _ (files files_now : FilesView) (patterns patterns_now : PatternsView) (command : Command) (sink sink_now : SinkView) (answer : ℕ) where
  abbrev Came : Ending → Type 0
  Came = Comes files files_now patterns patterns_now command

  rows_whole : Whole Came sink sink_now answer → Rows files files_now patterns patterns_now command sink sink_now answer
  rows_whole w = record {
    completed = λ is. elim (at-0 w.ending (sym w.answered ∙ is)) [
      | inl r ↦ inl (r.0, r.1, subst Came r.2 w.came, r.3)
      | inr ready ↦ inr (ready-only files files_now patterns patterns_now command (subst Came ready w.came))
    ];
    broke = λ is. let r = at-1 w.ending (sym w.answered ∙ is) in (r.0, r.1, subst Came r.2 w.came, r.3);
    budget = λ is. let r = at-6 w.ending (sym w.answered ∙ is) in (r.0, r.1, subst Came r.2 w.came, r.3);
    stuck = λ is. let r = at-7 w.ending (sym w.answered ∙ is) in (r.0, r.1, r.2, subst Came r.3 w.came, r.4);
    words = λ is. words-only files files_now patterns patterns_now command w.ending w.came (sym w.answered ∙ is);
    no_command = λ none. inl (w.answered ∙ words-status files files_now patterns patterns_now w.ending (subst (λ k. Comes files files_now patterns patterns_now k w.ending) none w.came));
    refused = λ is. let r = at-3 w.ending (sym w.answered ∙ is) in (r.0, subst Came r.1 w.came, subst (λ e. Gains sink.held sink_now.held (λ added. added ≡ report e)) r.1 w.put);
    sink_fault = λ is. absurd (never-10 w.ending (sym w.answered ∙ is));
    file = λ is. let r = at-13 w.ending (sym w.answered ∙ is) in
        (r.0, file-cause files files_now patterns patterns_now command r.0 (subst Came r.1 w.came), subst (λ e. Gains sink.held sink_now.held (λ added. added ≡ report e)) r.1 w.put);
    out = λ is. let r = at-14 w.ending (sym w.answered ∙ is) in (r.0, r.1, subst Came r.2 w.came, r.3);
    pattern = λ is. let st = sym w.answered ∙ is in (
      pattern-rose files files_now patterns patterns_now w.ending st (pattern-cause files files_now patterns patterns_now command w.ending w.came st),
      Gains-wider _ _ sink.held sink_now.held (pattern-report files files_now patterns patterns_now w.ending st) w.put,
    );
    whole = λ a b. (w.ending, w.came, w.answered, w.put);
    succeeds = λ a b. (w.ending, w.came, w.answered);
    exact = λ steady sure a b. exactly Came answer w.ending w.answered (λ other came. one_ending files files_now patterns patterns_now command w.ending other steady sure w.came came);
  }

  pub rows : Ends Came sink sink_now answer → Rows files files_now patterns patterns_now command sink sink_now answer
  rows (inl w) = rows_whole w
  rows (inr (inl w)) = record {
    completed = λ is. absurd (omega (arith, w.answered, is));
    broke = λ is. absurd (omega (arith, w.answered, is));
    budget = λ is. absurd (omega (arith, w.answered, is));
    stuck = λ is. absurd (omega (arith, w.answered, is));
    words = λ is. absurd (omega (arith, w.answered, is));
    no_command = λ none. inr (inl w.answered);
    refused = λ is. absurd (omega (arith, w.answered, is));
    sink_fault = λ is. w.failed;
    file = λ is. absurd (omega (arith, w.answered, is));
    out = λ is. absurd (omega (arith, w.answered, is));
    pattern = λ is. absurd (omega (arith, w.answered, is));
    whole = λ a b. absurd (a w.answered);
    succeeds = λ a b. absurd (a w.failed);
    exact = λ steady sure a b. absurd (a w.failed);
  }
  rows (inr (inr w)) = record {
    completed = λ is. absurd (omega (arith, w.answered, is));
    broke = λ is. absurd (omega (arith, w.answered, is));
    budget = λ is. absurd (omega (arith, w.answered, is));
    stuck = λ is. absurd (omega (arith, w.answered, is));
    words = λ is. absurd (omega (arith, w.answered, is));
    no_command = λ none. inr (inr w.answered);
    refused = λ is. absurd (omega (arith, w.answered, is));
    sink_fault = λ is. absurd (omega (arith, w.answered, is));
    file = λ is. absurd (omega (arith, w.answered, is));
    out = λ is. absurd (omega (arith, w.answered, is));
    pattern = λ is. absurd (omega (arith, w.answered, is));
    whole = λ a b. absurd (b w.answered);
    succeeds = λ a b. absurd (b w.answered);
    exact = λ steady sure a b. absurd (b w.answered);
  }
