-- Results that are given to the runs below, where `told` is what is told of patterns.
use Rattle.std.proofs.Common.{◌≡◌, ℕ, suc, ◌+◌, ◌≤◌, ◌<◌, not, map, ◌&&◌, ◌||◌, Bool, true, false, cond, List, [], ◌∷◌, ◌++◌, length, take, drop, reverse, if◌then◌else◌, Option, Some, None, refl, sym, ap, ◌∙◌, subst, arith}
use Rattle.std.specs.Prelude.{find, nat_le, IfOk, All}
use Rattle.std.specs.declared.result.Result.{Result as Result'}
use Rattle.std.specs.declared.result.Result.TheVariants.{Ok, Err}
use Rattle.std.specs.List.{list_any, IsLastAndRest}
use Rattle.std.specs.Option.{is_none, is_some, option_or}
use Rattle.std.specs.Str.{bytes_eq}
use Rattle.std.proofs.lemmas.List.{reverse-append, take-append-le}
use Rattle.std.proofs.lemmas.List.Elements.{All-append, All-cons, All-nil}
use Rattle.std.proofs.lemmas.Bool.Decides.{nat_tests}
use Rattle.arz_json.specs.Tree.{has_form, has_opaque, depth, max_depth, largest}
use Rattle.arz_json.proofs.Places.{depth_object}
use Rattle.arz_json.specs.declared.Json.{Json}
use Rattle.arz_json.specs.declared.Json.TheVariants.{Object}
use Rattle.arz_json.specs.declared.Member.{Member}
use Rattle.arz_cond.specs.Criteria.{Criterion, IsRead, criterion_at}
use Rattle.arz_cond.specs.Outcomes.{can_be_read, fault_in}
use Rattle.arz_cond.proofs.Functions.{readable_kind, reads_unless_fault}
use Rattle.arz_scope.specs.declared.facts.Completion.{Completion}
use Rattle.arz_scope.specs.declared.facts.Fact.{Fact}
use Rattle.arz_scope.specs.Scopes.{with_completion, completion_of}
use Rattle.arz_scope.specs.Scopes.{Inner}
use Rattle.arz_scope.specs.Shallow.{AreShallow, AreDoneShallow, IsShallowCompletion}
use Rattle.arz_scope.specs.Speaking.{completions_after}
use Rattle.arz_scope.proofs.LatestLemmas.{found-after}
use Rattle.arz_flow.specs.declared.answers.Answer.{Answer}
use Rattle.arz_flow.specs.declared.bundle.Bundle.{Bundle}
use Rattle.arz_relation.specs.declared.ends.End.{End}
use Rattle.arz_relation.specs.declared.retries.Count.{Count}
use Rattle.arz_relation.specs.Cases.{Run, Case, Runs, Enters, Depends, give, after_run, after_dependency, after_inner, judged, depend, is_recorded, result, spot_before, script}
use Rattle.arz_relation.specs.Documents.{depends_of}
use Rattle.arz_relation.specs.Executions.{whole, end, end_of, end_of_result, TookAll, IsTold}
use Rattle.arz_relation.specs.Play.{Result, Completed, Broke, Halt, NoStep, Seen, State, Ends, Script, Give, Stops, Plays}
use Rattle.arz_relation.specs.Stands.{Past, state, seen_of, turned, done_more, Follow, Stands}
use Rattle.arz_relation.specs.Valid.{IsValid}
use Rattle.arz_relation.specs.Verdicts.{Patterned}
use Rattle.arz_relation.proofs.Standing.{case_stands, pop_stands, record_stands, gives_whole, stops_whole}
use Rattle.arz_relation.proofs.Steady.{has_end}
use Rattle.arz_runs.specs.Fronts.{completed_more, result_of, unrecorded, depends_from, IsLookedAt}
use Rattle.arz_runs.specs.Scenes.{bundle_in, scene}
use Rattle.arz_runs.specs.ShallowRuns.{IsShallowFrame}
use Rattle.arz_runs.specs.declared.goals.Ending.{Ending}
use Rattle.arz_runs.specs.declared.look.Look.{Look}
use Rattle.arz_runs.specs.declared.plans.Planned.{Planned}
use Rattle.arz_runs.specs.Readable.{IsSound, is_readable}
use Rattle.arz_runs.specs.Rests.{Goes, lacks_answer, IsOver}
use Rattle.arz_runs.specs.Runs.{Goal, run_at, step_at, then_of, after_made, resume, continues, opening}
use Rattle.arz_runs.specs.Plain.{are_plain}
use Rattle.arz_runs.specs.Turns.{with_top, attempt_in, Lands, IsOpenOver}
use Rattle.arz_runs.specs.declared.frames.Frame.{Frame}
use Rattle.arz_runs.specs.declared.frames.Purpose.{Purpose}
use Rattle.arz_runs.specs.declared.frames.Purpose.TheVariants.{Execution, Dependency, Attempt, Instead, Before}
use Rattle.arz_runs.specs.declared.frames.State.TheVariants.{Ended}
use Rattle.arz_runs.specs.declared.goals.Goal.{Goal as ToDo}
use Rattle.arz_runs.specs.declared.goals.Goal.TheVariants.{Over, Rest}
use Rattle.arz_runs.specs.declared.frames.Then.{Then}
use Rattle.arz_runs.specs.declared.frames.Then.TheVariants.{Acts, Again}

-- ---- a sound bundle is valid

both_true : (a b : Bool) → (a && b) ≡ true → (a ≡ true) × (b ≡ true)
both_true true b h = (refl, h)
both_true false b h = absurd (cc)

none_is : {X : Type 0} (o : Option X) → is_none o ≡ true → o ≡ None
none_is None h = refl
none_is (Some x) h = absurd (cc)

readable_is_read : (c : Criterion) → is_readable c ≡ true → IsRead c
readable_is_read c h =
    let both = both_true (can_be_read c) (is_none (fault_in c)) h in
    (reads_unless_fault c (readable_kind c both.0)).1 (none_is (fault_in c) both.1)

pub sound_valid : (b : Bundle) → IsSound b → IsValid b
sound_valid b s =
    record {
      starts = s.starts;
      workflows = s.workflows;
      criteria = λ i d lt. readable_is_read (criterion_at _) (s.criteria i d lt);
      arazzo = s.arazzo;
      inputs = s.inputs;
      sources = s.sources;
    }

-- ---- completions

-- the completions after one more
pub one_more : (c : Completion) (newly done : List Completion) → completions_after (newly ++ c ∷ []) done ≡ with_completion c (completions_after newly done)
one_more c [] done = refl
one_more c (d ∷ newly) done = one_more c newly (with_completion d done)

any_found : {X : Type 0} (p : X → Bool) (xs : List X) → list_any p xs ≡ is_some (find p xs)
any_found p [] = refl
any_found p (x ∷ xs) = by (p x) (any_found p xs)
  where
    by : (b : Bool) → list_any p xs ≡ is_some (find p xs) → (b || list_any p xs) ≡ is_some (cond b (Some x) (find p xs))
    by true e = refl
    by false e = e

recorded_with : (w : List ℕ) (c : Completion) (done : List Completion) → is_recorded w (with_completion c done) ≡ (bytes_eq c.workflow w || is_recorded w done)
recorded_with w c done =
    any_found (λ d. bytes_eq d.workflow w) (with_completion c done)
    ∙ ap is_some (found-after (λ d. d.workflow) w c done)
    ∙ by (bytes_eq c.workflow w)
    ∙ ap (λ o. bytes_eq c.workflow w || o) (sym (any_found (λ d. bytes_eq d.workflow w) done))
  where
    by : (b : Bool) → is_some (cond b (Some c) (completion_of w done)) ≡ (b || is_some (completion_of w done))
    by true = refl
    by false = refl

or_turned : (a b c : Bool) → (a || (b || c)) ≡ ((b || a) || c)
or_turned true true c = refl
or_turned true false c = refl
or_turned false true c = refl
or_turned false false c = refl

-- a workflow is recorded among the new completions or before
pub recorded_after : (w : List ℕ) (newly done : List Completion) → is_recorded w (completions_after newly done) ≡ (is_recorded w newly || is_recorded w done)
recorded_after w [] done = refl
recorded_after w (c ∷ newly) done =
    recorded_after w newly (with_completion c done)
    ∙ ap (λ o. is_recorded w newly || o) (recorded_with w c done)
    ∙ or_turned (is_recorded w newly) (bytes_eq c.workflow w) (is_recorded w done)

pub reverse_last : {X : Type 0} (xs : List X) (x : X) → reverse (xs ++ x ∷ []) ≡ x ∷ reverse xs
reverse_last xs x = reverse-append xs (x ∷ [])

-- ---- ends

plain_settled : (b : Bool) (d e : End) → lacks_answer d ≡ false → lacks_answer e ≡ false → lacks_answer (cond b d e) ≡ false
plain_settled true d e x y = x
plain_settled false d e x y = y

pub result_settled : (w : List ℕ) (o : Result) → lacks_answer (end_of_result w o) ≡ false
result_settled w (Completed outputs) = plain_settled (has_opaque (Object outputs)) _ _ refl refl
result_settled w (Broke outputs) = plain_settled (has_opaque (Object outputs)) _ _ refl refl

module _ (told : Patterned) (b : Bundle) where
  -- an execution that stands at a result, with no run open, has ended
  pub gives_over : (done : List Completion) (sends : ℕ) (r : List Answer) (o : Result) → Goes told b [] done sends r (give o) → IsOver told b (end_of_result b.workflow o) r
  gives_over done sends r o g =
      record {
        fitting = λ t. subst TookAll (sym (gives_whole told b o g.past r g.stands t)) refl;
        end = λ t. ap (end_of b.workflow) (gives_whole told b o g.past r g.stands t);
        settled = result_settled b.workflow o;
      }

  -- where everything ends the execution has ended
  pub stops_over : (fs : List Frame) (done : List Completion) (sends : ℕ) (r : List Answer) (h : Halt) (e : End) → ((s : State) → end_of b.workflow (Ends h s) ≡ Some e) → lacks_answer e ≡ false
      → Goes told b fs done sends r (λ seen. Stops h) → IsOver told b e r
  stops_over fs done sends r h e is settled g =
      record {
        fitting = λ t. subst TookAll (sym (stops_whole told b h (continues told b fs) g.past r g.stands t)) refl;
        end = λ t. ap (end_of b.workflow) (stops_whole told b h (continues told b fs) g.past r g.stands t) ∙ is (state [] g.past);
        settled = settled;
      }

  -- a step that isn't there can't be entered in a sound bundle, so the execution may be said to have ended anyhow
  pub no_step : IsSound b → (fs : List Frame) (done : List Completion) (sends : ℕ) (r : List Answer) (e : End) → lacks_answer e ≡ false → Goes told b fs done sends r (λ seen. Stops NoStep) → IsOver told b e r
  no_step sound fs done sends r e settled g =
      record {
        fitting = fit;
        end = λ t. never t;
        settled = settled;
      }
    where
      fit : IsTold told b r → TookAll (whole told b r)
      fit t = subst TookAll (sym (stops_whole told b NoStep (continues told b fs) g.past r g.stands t)) refl

      never : IsTold told b r → end told b r ≡ Some e
      never t =
          let some = has_end told b r (sound_valid b sound) (fit t) t in
          let none : end told b r ≡ None = ap (end_of b.workflow) (stops_whole told b NoStep (continues told b fs) g.past r g.stands t) in
          let same : Some some.0 ≡ None = sym some.1 ∙ none in
          absurd (cc)

  -- ---- a run that is over

  -- what follows the result of a run doesn't depend on its facts
  pub popped : (fact : Option Fact) (f : Frame) (fs : List Frame) (done : List Completion) (sends : ℕ) (r : List Answer) (goal : Goal) → Goes told b (with_top fact (f ∷ fs)) done sends r goal → Goes told b (f ∷ fs) done sends r goal
  popped None f fs done sends r goal g = g
  popped (Some x) f fs done sends r goal g = record { past = g.past; completed = g.completed; counted = g.counted; stands = g.stands }

  -- its result is given to the runs below, and recorded where it was completed
  pub gives_back : (o : Result) (f : Frame) (fs : List Frame) (done : List Completion) (sends : ℕ) (r : List Answer) → Goes told b (f ∷ fs) done sends r (give o)
      → Goes told b fs (completed_more f o done) sends r (resume told b f.purpose fs o)
  gives_back (Completed outputs) f fs done sends r g =
      let c : Completion = record { workflow = f.workflow; inputs = f.inputs; outputs = outputs } in
      let ks = resume told b f.purpose fs ∷ continues told b fs in
      record {
        past = done_more g.past c;
        completed = ap (with_completion c) g.completed;
        counted = g.counted;
        stands = pop_stands told b (Completed outputs) (resume told b f.purpose fs) (continues told b fs) (done_more g.past c) r
            (record_stands told b c (Give (Completed outputs)) ks g.past r (pop_stands told b (Completed outputs) (after_run f.workflow f.inputs) ks g.past r g.stands));
      }
  gives_back (Broke outputs) f fs done sends r g =
      let ks = resume told b f.purpose fs ∷ continues told b fs in
      record {
        past = g.past;
        completed = g.completed;
        counted = g.counted;
        stands = pop_stands told b (Broke outputs) (resume told b f.purpose fs) (continues told b fs) g.past r
            (pop_stands told b (Broke outputs) (after_run f.workflow f.inputs) ks g.past r g.stands);
      }

  -- the result of the last run is that of the execution
  pub ends_last : (p : Purpose) (done : List Completion) (sends : ℕ) (r : List Answer) (o : Result) → Goes told b [] done sends r (resume told b p [] o) → IsOver told b (end_of_result b.workflow o) r
  ends_last Execution done sends r o g = gives_over done sends r o g
  ends_last Instead done sends r o g = gives_over done sends r o g
  ends_last (Dependency n) done sends r o g = gives_over done sends r o g
  ends_last (Attempt i next) done sends r o g = gives_over done sends r o g
  ends_last (Before i counts) done sends r o g = gives_over done sends r o g

  -- ---- steps and dependencies that come next

  -- a case that goes on as its script says
  pub turns_case : (fs : List Frame) (done : List Completion) (sends : ℕ) (r : List Answer) (c : Case) → Goes told b fs done sends r (λ seen. Plays c give) → Goes told b fs done sends r (script told b c)
  turns_case fs done sends r c g = record { past = turned g.past; completed = g.completed; counted = g.counted; stands = case_stands told b c (continues told b fs) g.past r g.stands }

  -- a step that is entered is attempted, and an action of it is taken
  pub enters : (f : Frame) (fs : List Frame) (done : List Completion) (sends : ℕ) (r : List Answer) (i : ℕ) (counts : List Count)
      → Goes told b (f ∷ fs) done sends r (script told b (Enters (run_at f fs) i counts)) → Goes told b (f ∷ fs) done sends r (attempt_in told b (f ∷ fs) i (Acts counts))
  unfolding script
  enters f fs done sends r i counts g = record { past = g.past; completed = g.completed; counted = g.counted; stands = g.stands }

  module _ (f : Frame) (fs : List Frame) (done : List Completion) (sends : ℕ) (r : List Answer) where
    -- the first of these dependencies is run, or the first step is entered
    abbrev dependent : List (List ℕ) → Goal
    dependent [] seen = script told b (Enters (run_at f fs) 0 []) seen
    dependent (w ∷ ws) seen = Plays (Runs w f.inputs (length fs + 1 + 1) (spot_before (run_at f fs))) (after_dependency (run_at f fs) ws)

    -- whether the first of them is recorded
    first_recorded : (w : List ℕ) (ws : List (List ℕ)) → Goes told b (f ∷ fs) done sends r (script told b (Depends (run_at f fs) w ws))
        → Goes told b (f ∷ fs) done sends r (λ seen. if is_recorded w done then Plays (depend (run_at f fs) ws) give else dependent (w ∷ ws) seen)
    unfolding script
    first_recorded w ws g =
        record {
          past = g.past;
          completed = g.completed;
          counted = g.counted;
          stands = subst (λ d. Stands told b (if is_recorded w d then Plays (depend (run_at f fs) ws) give else dependent (w ∷ ws) (seen_of g.past)) (continues told b (f ∷ fs)) g.past r) g.completed g.stands;
        }

    -- those that are recorded are passed over
    pub passes_over : (ws : List (List ℕ)) → Goes told b (f ∷ fs) done sends r (script told b (depend (run_at f fs) ws)) → Goes told b (f ∷ fs) done sends r (dependent (unrecorded done ws))
    passes_over [] g = g
    passes_over (w ∷ ws) g = by (is_recorded w done) (passes_over ws) (first_recorded w ws g)
      where
        by : (known : Bool) → (Goes told b (f ∷ fs) done sends r (script told b (depend (run_at f fs) ws)) → Goes told b (f ∷ fs) done sends r (dependent (unrecorded done ws)))
            → Goes told b (f ∷ fs) done sends r (λ seen. if known then Plays (depend (run_at f fs) ws) give else dependent (w ∷ ws) seen)
            → Goes told b (f ∷ fs) done sends r (dependent (if known then unrecorded done ws else w ∷ ws))
        by true rest g = rest (turns_case (f ∷ fs) done sends r (depend (run_at f fs) ws) g)
        by false rest g = g

    -- each is recorded: the first step is attempted
    pub none_depends : (from : ℕ) (counts : List Count) → unrecorded done (drop from (depends_of b f.workflow)) ≡ [] → counts ≡ [] → Goes told b (f ∷ fs) done sends r (depends_from told b f fs from)
        → Goes told b (f ∷ fs) done sends r (attempt_in told b (f ∷ fs) 0 (Acts counts))
    none_depends from counts e none g =
        subst (λ l. Goes told b (f ∷ fs) done sends r (attempt_in told b (f ∷ fs) 0 (Acts l))) (sym none)
        (enters f fs done sends r 0 [] (subst (λ ws. Goes told b (f ∷ fs) done sends r (dependent ws)) e (passes_over (drop from (depends_of b f.workflow)) g)))

    -- one isn't recorded: it is run
    pub one_depends : (from i : ℕ) (w x : List ℕ) (inputs : List Member) → unrecorded done (drop from (depends_of b f.workflow)) ≡ w ∷ drop (i + 1) (depends_of b f.workflow) → inputs ≡ f.inputs → x ≡ f.workflow
        → Goes told b (f ∷ fs) done sends r (depends_from told b f fs from) → Goes told b (f ∷ fs) done sends r (opening told b (f ∷ fs) w inputs (record { workflow = x; step = None }) (Dependency (i + 1)))
    one_depends from i w x inputs e same at g =
        let deep : length fs + 1 + 1 ≡ length (f ∷ fs) + 1 = omega arith in
        subst (λ given. Goes told b (f ∷ fs) done sends r (opening told b (f ∷ fs) w given (record { workflow = x; step = None }) (Dependency (i + 1)))) (sym same)
        (subst (λ y. Goes told b (f ∷ fs) done sends r (opening told b (f ∷ fs) w f.inputs (record { workflow = y; step = None }) (Dependency (i + 1)))) (sym at)
        (subst (λ d. Goes told b (f ∷ fs) done sends r (λ seen. Plays (Runs w f.inputs d (spot_before (run_at f fs))) (after_dependency (run_at f fs) (drop (i + 1) (depends_of b f.workflow))))) deep
        (subst (λ ws. Goes told b (f ∷ fs) done sends r (dependent ws)) e (passes_over (drop from (depends_of b f.workflow)) g))))

  -- the next dependency comes next after one that was completed
  pub depends_on : (f : Frame) (fs : List Frame) (done : List Completion) (sends : ℕ) (r : List Answer) (from : ℕ) (ok : Bool) (outputs : List Member) → ok ≡ true
      → Goes told b (f ∷ fs) done sends r (resume told b (Dependency from) (f ∷ fs) (result ok outputs)) → Goes told b (f ∷ fs) done sends r (depends_from told b f fs from)
  depends_on f fs done sends r from ok outputs e g =
      turns_case (f ∷ fs) done sends r (depend (run_at f fs) (drop from (depends_of b f.workflow)))
      (subst (λ o. Goes told b (f ∷ fs) done sends r (resume told b (Dependency from) (f ∷ fs) (result o outputs))) e g)

  -- ---- what is given back for the runs below

  module _ (done : List Completion) (sends : ℕ) (r : List Answer) where
    pub moved : (fs gs : List Frame) (p q : Purpose) (o : Result) → fs ≡ gs → p ≡ q → Goes told b fs done sends r (resume told b p fs o) → Goes told b gs done sends r (resume told b q gs o)
    moved fs gs p q o e f g =
        subst (λ hs. Goes told b hs done sends r (resume told b q hs o)) e (subst (λ x. Goes told b fs done sends r (resume told b x fs o)) f g)

    pub only_lands : (fact : Option Fact) (to given : ToDo) (fs gs : List Frame) → fact ≡ None → given ≡ to → fs ≡ gs → Lands told b gs done sends r to → Lands told b (with_top fact fs) done sends r given
    only_lands fact to given fs gs e f h lands =
        subst (λ x. Lands told b (with_top x fs) done sends r given) (sym e)
        (subst (λ x. Lands told b fs done sends r x) (sym f) (subst (λ hs. Lands told b hs done sends r to) (sym h) lands))

    pub end_lands : (p : Purpose) (o : Result) (e : End) (fact : Option Fact) (given : ToDo) (fs : List Frame) → fs ≡ [] → given ≡ Rest (Ended e) → e ≡ end_of_result b.workflow o → Goes told b fs done sends r (resume told b p fs o)
        → Lands told b (with_top fact fs) done sends r given
    end_lands p o e fact given fs none f is g =
        subst (λ x. Lands told b (with_top fact fs) done sends r x) (sym f)
        (subst (λ x. IsOver told b x r) (sym is) (ends_last p done sends r o (moved fs [] p p o none refl g)))

    -- a step is entered after what went before it
    pub enters_again : (f : Frame) (fs : List Frame) (i : ℕ) (counts copies : List Count) (o : Result) → copies ≡ counts → Goes told b (f ∷ fs) done sends r (resume told b (Before i counts) (f ∷ fs) o)
        → Goes told b (f ∷ fs) done sends r (attempt_in told b (f ∷ fs) i (Acts copies))
    enters_again f fs i counts copies o same g =
        subst (λ l. Goes told b (f ∷ fs) done sends r (attempt_in told b (f ∷ fs) i (Acts l))) (sym same)
        (enters f fs done sends r i counts (turns_case (f ∷ fs) done sends r (Enters (run_at f fs) i counts) g))

    -- an attempt that made a run is judged
    pub judges : (f : Frame) (fs : List Frame) (i : ℕ) (next : Then) (step : Json) (ok : Bool) (outputs given : List Member) → given ≡ outputs → step_at b f.workflow i ≡ Some step
        → Goes told b (f ∷ fs) done sends r (resume told b (Attempt i next) (f ∷ fs) (result ok outputs))
        → Goes told b (f ∷ fs) done sends r (judged told b (run_at f fs) step (Inner given) ok (then_of told b i step next))
    judges f fs i next step ok outputs given same there g =
        subst (λ l. Goes told b (f ∷ fs) done sends r (judged told b (run_at f fs) step (Inner l) ok (then_of told b i step next))) (sym same)
        (by_ok ok (subst (λ o. Goes told b (f ∷ fs) done sends r (after_made told b (run_at f fs) i next o (result ok outputs))) there g))
      where
        by_ok : (k : Bool) → Goes told b (f ∷ fs) done sends r (after_inner told b (run_at f fs) step (then_of told b i step next) (result k outputs)) → Goes told b (f ∷ fs) done sends r (judged told b (run_at f fs) step (Inner outputs) k (then_of told b i step next))
        by_ok true h = h
        by_ok false h = h

    -- a step that isn't there gives the result back
    pub absent_gives : (f : Frame) (fs : List Frame) (i : ℕ) (next : Then) (o : Result) → step_at b f.workflow i ≡ None → Goes told b (f ∷ fs) done sends r (resume told b (Attempt i next) (f ∷ fs) o) → Goes told b (f ∷ fs) done sends r (give o)
    absent_gives f fs i next o absent g = subst (λ x. Goes told b (f ∷ fs) done sends r (after_made told b (run_at f fs) i next x o)) absent g

-- ---- for where the code looks

pub none_open : (fs : List Frame) → length fs ≡ 0 → reverse fs ≡ []
none_open [] e = refl
none_open (f ∷ fs) e = absurd (omega (arith, e))

pub one_open : (fs : List Frame) (f : Frame) (rest : List Frame) → IsLastAndRest fs f rest → reverse fs ≡ f ∷ reverse rest
one_open fs f rest is = ap reverse is.0 ∙ reverse_last rest f

all_of : (a b c : Bool) → a ≡ true → b ≡ true → c ≡ true → (a && b && c) ≡ true
all_of a b c x y z = rw (x, y, z) refl

depths : (ms : List Member) → AreShallow ms → largest (map (λ m. depth m.value) ms) ≤ 127
depths [] all = omega arith
depths (m ∷ ms) all = omega (arith, (all 0 m (omega arith)).nests, depths ms (λ k d lt. all (suc k) d (omega (arith, lt))))

-- outputs without a fraction have a compact text
pub plain_members : (ms : List Member) → has_form (Object ms) ≡ true → AreShallow ms → has_opaque (Object ms) ≡ false → are_plain ms ≡ true
plain_members ms form all none =
    let deep : depth (Object ms) ≤ 130 = omega (arith, depth_object ms, depths ms all) in
    all_of (has_form (Object ms)) (nat_le (depth (Object ms)) max_depth) (not (has_opaque (Object ms))) form (grind (arith, nat_tests)) (ap not none)

pub one_shallow : (c : Completion) → IsShallowCompletion c → AreDoneShallow (c ∷ [])
one_shallow c h = All-cons IsShallowCompletion c [] h (All-nil IsShallowCompletion)

pub ok_more : {A E : Type 0} (P Q : A → Type 0) (r : Result' A E) → ((x : A) → P x → Q x) → IfOk r P → IfOk r Q
ok_more P Q (Ok x) f h = f x h
ok_more P Q (Err e) f h = tt

-- ---- a run that was completed is recorded

module _ (f : Frame) (e : Ending) (w : List ℕ) (inputs outputs : List Member) (more newly : List Completion) (same : inputs ≡ f.inputs) (left : outputs ≡ e.outputs)
    (pushed : more ≡ newly ++ record { workflow = w; inputs = inputs; outputs = outputs } ∷ []) where
  pub records_more : e.completed ≡ true → w ≡ f.workflow → (done : List Completion) → completions_after more done ≡ completed_more f (result_of e) (completions_after newly done)
  records_more ok named done =
      let before = completions_after newly done in
      ap (λ l. completions_after l done) pushed
      ∙ one_more (record { workflow = w; inputs = inputs; outputs = outputs }) newly done
      ∙ ap (λ x. with_completion (record { workflow = x; inputs = inputs; outputs = outputs }) before) named
      ∙ ap (λ x. with_completion (record { workflow = f.workflow; inputs = x; outputs = outputs }) before) same
      ∙ ap (λ x. with_completion (record { workflow = f.workflow; inputs = f.inputs; outputs = x }) before) left
      ∙ sym (ap (λ k. completed_more f (result k e.outputs) before) ok)

  pub records_shallow : IsShallowFrame f → AreShallow e.outputs → AreDoneShallow newly → AreDoneShallow more
  records_shallow frame given all =
      let c : Completion = record { workflow = w; inputs = inputs; outputs = outputs } in
      subst AreDoneShallow (sym pushed) (All-append IsShallowCompletion newly (c ∷ []) all (one_shallow c (subst AreShallow (sym same) frame.0, subst AreShallow (sym left) given)))

-- ---- an attempt that is looked at

module _ (told : Patterned) (b : Bundle) (f : Frame) (fs : List Frame) (depth i : ℕ) (done : List Completion) (l : Look) (p : Planned) (at : IsLookedAt b f depth None done i l p) (deep : depth ≡ length fs + 1) where
  there : step_at b f.workflow i ≡ Some p.step.now
  there = sym (ap (λ x. step_at x l.frame.now.workflow i) at.bundle ∙ ap (λ x. step_at b x.workflow i) at.frame_is) ∙ at.step.0

  abbrev Judged : Bundle → Frame → List Completion → ℕ → List Answer → List Member → Bool → Then → Type 0
  Judged b' f' done' sends r given ok next = Goes told b' (f' ∷ fs) done' sends r (judged told b' (run_at f' fs) p.step.now (Inner given) ok (then_of told b' i p.step.now next))

  pub looked_lands : (next : Then) (ok : Bool) (outputs given : List Member) (fact : Option Fact) (to : ToDo) → given ≡ outputs
      → ((below : List Frame) (sends : ℕ) (r : List Answer) → IsOpenOver l below
      → Goes told (bundle_in l) (l.frame.now ∷ below) (scene l).done sends r (judged told (bundle_in l) (run_at l.frame.now below) p.step.now (Inner given) ok (then_of told (bundle_in l) i p.step.now next))
      → Lands told (bundle_in l) (with_top fact (l.frame.now ∷ below)) (scene l).done sends r to)
      → (sends : ℕ) (r : List Answer) → Goes told b (f ∷ fs) done sends r (resume told b (Attempt i next) (f ∷ fs) (result ok outputs)) → Lands told b (with_top fact (f ∷ fs)) done sends r to
  looked_lands next ok outputs given fact to same h sends r g =
      let here = h fs sends r (at.depth_is ∙ deep) in
      let by_bundle = subst (λ x. Judged x l.frame.now (scene l).done sends r given ok next → Lands told x (with_top fact (l.frame.now ∷ fs)) (scene l).done sends r to) at.bundle here in
      let by_frame = subst (λ x. Judged b x (scene l).done sends r given ok next → Lands told b (with_top fact (x ∷ fs)) (scene l).done sends r to) at.frame_is by_bundle in
      let by_done = subst (λ x. Judged b f x sends r given ok next → Lands told b (with_top fact (f ∷ fs)) x sends r to) at.done_are by_frame in
      by_done (judges told b done sends r f fs i next p.step.now ok outputs given same there g)

-- ---- the last of a list, and those before it

module _ {X : Type 0} (P : X → Type 0) where
  ends : (rest : List X) (x : X) → All P (rest ++ x ∷ []) → P x
  ends [] x all = all 0 x (omega arith)
  ends (y ∷ rest) x all = ends rest x (λ k d lt. all (suc k) d (omega (arith, lt)))

  starts : (rest : List X) (x : X) → All P (rest ++ x ∷ []) → All P rest
  starts [] x all = All-nil P
  starts (y ∷ rest) x all = All-cons P y rest (all 0 y (omega arith)) (starts rest x (λ k d lt. all (suc k) d (omega (arith, lt))))

  pub last_has : (xs rest : List X) (x : X) → IsLastAndRest xs x rest → All P xs → P x
  last_has xs rest x is all = ends rest x (subst (All P) is.0 all)

  pub rest_has : (xs rest : List X) (x : X) → IsLastAndRest xs x rest → All P xs → All P rest
  rest_has xs rest x is all = starts rest x (subst (All P) is.0 all)

pub ok_more_both : {A E : Type 0} (P Q R : A → Type 0) (r : Result' A E) → ((x : A) → P x → Q x → R x) → IfOk r P → IfOk r Q → IfOk r R
ok_more_both P Q R (Ok x) f h k = f x h k
ok_more_both P Q R (Err e) f h k = tt

-- ---- one run after another is over

pub none_on_top : (fact : Option Fact) (fs : List Frame) → fs ≡ [] → with_top fact fs ≡ []
none_on_top None fs e = e
none_on_top (Some x) fs e = ap (with_top (Some x)) e

module _ (told : Patterned) (b : Bundle) where
  -- with no run open, the execution has ended
  pub ends_none : (done : List Completion) (sends : ℕ) (r : List Answer) (fact : Option Fact) (fs : List Frame) (goal : ToDo) (e : Ending) (last : End) → fs ≡ [] → goal ≡ Over e → last ≡ end_of_result b.workflow (result_of e)
      → Lands told b (with_top fact fs) done sends r goal → IsOver told b last r
  ends_none done sends r fact fs goal e last none over is lands =
      let here = subst (λ x. Lands told b (with_top fact fs) done sends r x) over lands in
      let alone = subst (λ x. Goes told b x done sends r (give (result_of e))) (none_on_top fact fs none) here in
      subst (λ x. IsOver told b x r) (sym is) (gives_over told b done sends r (result_of e) alone)

  -- the innermost run is over, and its result is given to those below
  pub settles_one : (frames below : List Frame) (f : Frame) (fact left : Option Fact) (newly more shown done : List Completion) (goal next : ToDo) (e : Ending) → IsLastAndRest frames f below → goal ≡ Over e → shown ≡ more
      → ((d : List Completion) → completions_after more d ≡ completed_more f (result_of e) (completions_after newly d))
      → ((sends : ℕ) (r : List Answer) → Goes told b (reverse below) (completions_after shown done) sends r (resume told b f.purpose (reverse below) (result_of e)) → Lands told b (with_top left (reverse below)) (completions_after shown done) sends r next)
      → (sends : ℕ) (r : List Answer) → Lands told b (with_top fact (reverse frames)) (completions_after newly done) sends r goal → Lands told b (with_top left (reverse below)) (completions_after more done) sends r next
  settles_one frames below f fact left newly more shown done goal next e is over same recorded resumes sends r lands =
      let here = subst (λ x. Lands told b (with_top fact (reverse frames)) (completions_after newly done) sends r x) over lands in
      let on_top = subst (λ fs. Goes told b (with_top fact fs) (completions_after newly done) sends r (give (result_of e))) (one_open frames f below is) here in
      let back = gives_back told b (result_of e) f (reverse below) (completions_after newly done) sends r (popped told b fact f (reverse below) (completions_after newly done) sends r (give (result_of e)) on_top) in
      let by_more = subst (λ d. Goes told b (reverse below) d sends r (resume told b f.purpose (reverse below) (result_of e))) (sym (recorded done)) back in
      subst (λ x. Lands told b (with_top left (reverse below)) (completions_after x done) sends r next) same
      (resumes sends r (subst (λ x. Goes told b (reverse below) (completions_after x done) sends r (resume told b f.purpose (reverse below) (result_of e))) (sym same) by_more))

  -- those that stay open below it are those that stay open
  pub settles_rest : (later : Patterned) (frames below : List Frame) (f : Frame) (kept : ℕ) (fact left : Option Fact) (before after : List Completion) (goal next : ToDo) (sends : ℕ) (r : List Answer) → IsLastAndRest frames f below → kept ≤ length below → later ≡ told
      → (Lands later b (with_top fact (reverse below)) before sends r goal → Lands later b (with_top left (reverse (take kept below))) after sends r next)
      → Lands told b (with_top fact (reverse below)) before sends r goal → Lands told b (with_top left (reverse (take kept frames))) after sends r next
  settles_rest later frames below f kept fact left before after goal next sends r is le same h lands =
      let all : take kept frames ≡ take kept below = ap (take kept) is.0 ∙ take-append-le kept below (f ∷ []) le in
      let here = subst (λ x. Lands x b (with_top fact (reverse below)) before sends r goal → Lands x b (with_top left (reverse (take kept below))) after sends r next) same h in
      subst (λ fs. Lands told b (with_top left (reverse fs)) after sends r next) (sym all) (here lands)
