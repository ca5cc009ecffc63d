-- What follows an attempt: how each case leads on.
use Rattle.std.proofs.Common.{◌≡◌, ℕ, zero, suc, ◌+◌, ◌==◌, ◌||◌, Bool, true, false, if◌then◌else◌, List, map, [], ◌∷◌, length, Option, Some, None, refl, sym, ap, ap₂, ◌∙◌, subst, arith}
use Rattle.std.specs.Borrow.{Bor}
use Rattle.std.specs.Result.{IfOk}
use Rattle.std.specs.declared.result.Result.{Result}
use Rattle.std.specs.declared.result.Result.TheVariants.{Ok, Err}
use Rattle.std.specs.Option.{option_copied, is_some}
use Rattle.std.specs.Prelude.{slice_get, nat_le}
use Rattle.arz_json.specs.declared.Json.{Json}
use Rattle.arz_json.specs.declared.Member.{Member}
use Rattle.arz_actions.specs.Ready.{ready_of}
use Rattle.arz_actions.specs.declared.ready.Ready.{Ready}
use Rattle.arz_description.specs.declared.parts.Act.{Act}
use Rattle.arz_description.specs.declared.parts.Act.TheVariants as act
use Rattle.arz_description.specs.declared.parts.First.{First}
use Rattle.arz_description.specs.declared.parts.First.TheVariants as first
use Rattle.arz_flow.specs.declared.answers.Answer.{Answer}
use Rattle.arz_flow.specs.declared.answers.Spot.{Spot}
use Rattle.arz_flow.specs.declared.bundle.Bundle.{Bundle}
use Rattle.arz_rx.specs.Patterns.{PatternsView}
use Rattle.arz_cond.specs.Holding.{Fails}
use Rattle.arz_cond.specs.declared.cause.CondFault.{CondFault}
use Rattle.arz_cond.specs.declared.cause.CondFault.TheVariants as fault
use Rattle.arz_path.specs.Outcome.{Outcome, given, wide, untold, and_then, Covers}
use Rattle.arz_expr.specs.declared.syntax.Base.{Base}
use Rattle.arz_request.specs.declared.cause.Cause.TheVariants.{TooWide}
use Rattle.arz_scope.specs.declared.facts.Completion.{Completion}
use Rattle.arz_scope.specs.declared.facts.Fact.{Fact}
use Rattle.arz_scope.specs.Scopes.{Attempt as Own, with_fact}
use Rattle.arz_scope.specs.Speaking.{facts_after}
use Rattle.arz_relation.specs.declared.ends.End.{End}
use Rattle.arz_relation.specs.declared.ends.End.TheVariants.{Stuck as EndStuck}
use Rattle.arz_relation.specs.declared.retries.Count.{Count}
use Rattle.arz_relation.specs.Cases.{Run, Case, and_fact, new_fact, act_case, Runs, Enters, Goes_on, Ends_run, Goes_to, Goes_over, Retries, Closes, Tried, tried, judged, acts, choice, chosen_case, spoken_of, spot, result, outputs_at_end, next_step, with_outcome, tries_again, enters_after, give, script}
use Rattle.arz_relation.specs.Documents.{steps_of, index_of, criteria_of, criteria_in, actions_at, actions_in, step_actions, joined_actions}
use Rattle.arz_relation.specs.Retries.{is_used_up, is_used_up_by, made_of, once_more, delay_after}
use Rattle.arz_relation.specs.Executions.{TookAll, end_of}
use Rattle.arz_relation.specs.Play.{Seen, Halt, Stuck, Ends, Give, Stops, Plays, Waits}
use Rattle.arz_relation.specs.Stands.{Past, state, seen_of, turned, Stands}
use Rattle.arz_relation.specs.Verdicts.{Patterned, all_hold, verdict}
use Rattle.arz_relation.proofs.Standing.{case_stands, untold_stands, stops_whole}
use Rattle.arz_runs.specs.Rests.{Goes, IsOver, lacks_answer}
use Rattle.arz_runs.specs.Runs.{Goal, run_at, step_at, then_of, continues}
use Rattle.arz_runs.specs.Planned.{IsStep, IsStepAt}
use Rattle.arz_runs.specs.Scenes.{Scene, bundle_in, run_in, scene, own_of, IsChoice, Chooses}
use Rattle.arz_runs.specs.Trying.{Leads, LeadsAt, Takes, HasFact, playing, tried_in, actions_after, widened, opened, closed}
use Rattle.arz_runs.specs.Turns.{Lands, IsOpenOver, with_top}
use Rattle.arz_runs.specs.declared.frames.Frame.{Frame}
use Rattle.arz_runs.specs.declared.frames.Purpose.TheVariants.{Instead, Before}
use Rattle.arz_runs.specs.declared.frames.State.TheVariants as rests
use Rattle.arz_runs.specs.declared.frames.Then.{Then}
use Rattle.arz_runs.specs.declared.frames.Then.TheVariants.{Acts, Again}
use Rattle.arz_runs.specs.declared.goals.Goal.{Goal as Next}
use Rattle.arz_runs.specs.declared.look.Look.{Look}
use Rattle.arz_runs.specs.declared.plans.Planned.{Planned}
use Rattle.arz_runs.specs.declared.trying.Judged.{Judged}
use Rattle.arz_runs.specs.declared.goals.Goal.TheVariants.{Attempt, Open, Over, Rest}

module _ (told : Patterned) (b : Bundle) (f : Frame) (fs : List Frame) (done : List Completion) (sends : ℕ) (r : List Answer) where
  abbrev Going : Goal → Type 0
  Going goal = Goes told b (f ∷ fs) done sends r goal

  abbrev Landing : Next → Type 0
  Landing next = Lands told b (f ∷ fs) done sends r next

  abbrev the_run : Run
  the_run = run_at f fs

  -- what stands is the same where the completions have other names
  at_done : (goal : List Completion → Goal) (p : Past) → p.done ≡ done → Stands told b (goal p.done (seen_of p)) (continues told b (f ∷ fs)) p r → Stands told b (goal done (seen_of p)) (continues told b (f ∷ fs)) p r
  at_done goal p is st = subst (λ d. Stands told b (goal d (seen_of p)) (continues told b (f ∷ fs)) p r) is st

  -- ---- a case whose result is that of the run

  pub case_goes : (c : Case) → Going (playing c) → Going (script told b c)
  case_goes c g = record {
    past = turned g.past;
    completed = g.completed;
    counted = g.counted;
    stands = case_stands told b c (continues told b (f ∷ fs)) g.past r g.stands;
  }

  -- where everything ends the execution has ended
  stops_over : (h : Halt) (e : End) → ((p : Past) → end_of b.workflow (Ends h (state [] p)) ≡ Some e) → lacks_answer e ≡ false → Going (λ seen. Stops h) → IsOver told b e r
  stops_over h e is settled g = record {
    fitting = λ t. subst TookAll (sym (stops_whole told b h (continues told b (f ∷ fs)) g.past r g.stands t)) refl;
    end = λ t. ap (end_of b.workflow) (stops_whole told b h (continues told b (f ∷ fs)) g.past r g.stands t) ∙ is g.past;
    settled = settled;
  }

  -- a step is entered
  pub enters_lands : (i : ℕ) (counts : List Count) → Going (playing (Enters the_run i counts)) → Landing (Attempt i (Acts counts))
  unfolding script
  enters_lands i counts g = case_goes (Enters the_run i counts) g

  -- the run is over
  pub closes_lands : (ok : Bool) (outputs : List Member) → outputs ≡ outputs_at_end b the_run done → Going (playing (Closes the_run ok)) → Landing (Over (record { completed = ok; outputs = outputs }))
  unfolding script
  closes_lands ok outputs is g =
      let c = case_goes (Closes the_run ok) g in
      record {
        past = c.past;
        completed = c.completed;
        counted = c.counted;
        stands = subst (λ o. Stands told b (Give (result ok o)) (continues told b (f ∷ fs)) c.past r) (sym is) (at_done (λ d seen. Give (result ok (outputs_at_end b the_run d))) c.past c.completed c.stands);
      }

  -- ---- no action is taken

  follows : (i : ℕ) (o : Option Json) → step_at b f.workflow (i + 1) ≡ o → Going (playing (Goes_on the_run i true)) → Going (playing (next_step the_run (i + 1) o))
  unfolding script
  follows i o is g =
      let c = case_goes (Goes_on the_run i true) g in
      record {
        past = c.past;
        completed = c.completed;
        counted = c.counted;
        stands = subst (λ s. Stands told b (Plays (next_step the_run (i + 1) s) give) (continues told b (f ∷ fs)) c.past r) is c.stands;
      }

  pub next_lands : (i : ℕ) (step : Json) → step_at b f.workflow (i + 1) ≡ Some step → Going (playing (Goes_on the_run i true)) → Landing (Attempt (i + 1) (Acts []))
  next_lands i step is g = enters_lands (i + 1) [] (follows i (Some step) is g)

  pub last_lands : (i : ℕ) (outputs : List Member) → step_at b f.workflow (i + 1) ≡ None → outputs ≡ outputs_at_end b the_run done → Going (playing (Goes_on the_run i true)) → Landing (Over (record { completed = true; outputs = outputs }))
  last_lands i outputs is value g = closes_lands true outputs value (follows i None is g)

  pub breaks_lands : (i : ℕ) (outputs : List Member) → outputs ≡ outputs_at_end b the_run done → Going (playing (Goes_on the_run i false)) → Landing (Over (record { completed = false; outputs = outputs }))
  unfolding script
  breaks_lands i outputs value g = closes_lands false outputs value (case_goes (Goes_on the_run i false) g)

  -- ---- actions

  pub ends_lands : (ok : Bool) (outputs : List Member) → outputs ≡ outputs_at_end b the_run done → Going (playing (Ends_run the_run ok)) → Landing (Over (record { completed = ok; outputs = outputs }))
  unfolding script
  ends_lands ok outputs value g = closes_lands ok outputs value (case_goes (Ends_run the_run ok) g)

  pub goes_lands : (i : ℕ) → Going (playing (Goes_to the_run i)) → Landing (Attempt i (Acts []))
  unfolding script
  goes_lands i g = enters_lands i [] (case_goes (Goes_to the_run i) g)

  -- the depth of a run that is made
  deeper : length (f ∷ fs) + 1 ≡ the_run.depth + 1
  deeper = omega arith

  pub over_lands : (w : List ℕ) (inputs : List Member) (at : Spot) → inputs ≡ f.inputs → Going (playing (Goes_over the_run w at)) → Landing (Open (record { workflow = w; inputs = inputs; purpose = Instead; at = at }))
  unfolding script
  over_lands w inputs at is g =
      let c = case_goes (Goes_over the_run w at) g in
      record {
        past = c.past;
        completed = c.completed;
        counted = c.counted;
        stands = subst (λ n. Stands told b (Plays (Runs w inputs n at) give) (continues told b (f ∷ fs)) c.past r) (sym deeper)
            (subst (λ ms. Stands told b (Plays (Runs w ms (the_run.depth + 1) at) give) (continues told b (f ∷ fs)) c.past r) (sym is) c.stands);
      }

  -- a retry comes at once, or after a while
  pub retries_now : (i : ℕ) (at : Spot) (counts : List Count) (seconds : ℕ) (before : First) → (seconds == 0 || b.skip_delay) ≡ true → Going (playing (Retries the_run i at counts seconds before)) → Going (tries_again told b the_run i at counts before)
  unfolding script
  retries_now i at counts seconds before now g =
      let c = case_goes (Retries the_run i at counts seconds before) g in
      record {
        past = c.past;
        completed = c.completed;
        counted = c.counted;
        stands = subst (λ t. Stands told b (if t then tries_again told b the_run i at counts before (seen_of c.past) else Waits seconds (tries_again told b the_run i at counts before)) (continues told b (f ∷ fs)) c.past r) now c.stands;
      }

  pub retries_lands : (i : ℕ) (step : Json) (counts : List Count) (seconds : ℕ) (before : First) → step_at b f.workflow i ≡ Some step → (seconds == 0 || b.skip_delay) ≡ false → Going (playing (Retries the_run i (spot the_run step) counts seconds before)) → Landing (Rest (rests.Waits seconds i counts before))
  unfolding script
  retries_lands i step counts seconds before there later g =
      let at = spot the_run step in
      let c = case_goes (Retries the_run i at counts seconds before) g in
      record {
        frame = f;
        below = fs;
        runs = refl;
        step = step;
        there = there;
        goes = record {
          past = c.past;
          completed = c.completed;
          counted = c.counted;
          stands = subst (λ t. Stands told b (if t then tries_again told b the_run i at counts before (seen_of c.past) else Waits seconds (tries_again told b the_run i at counts before)) (continues told b (f ∷ fs)) c.past r) later c.stands;
        };
      }

  -- ---- what goes before a step is tried again

  pub before_lands : (w : List ℕ) (inputs : List Member) (i : ℕ) (at : Spot) (counts : List Count) → inputs ≡ f.inputs → Going (tries_again told b the_run i at counts (first.Flow w)) → Landing (Open (record { workflow = w; inputs = inputs; purpose = Before i counts; at = at }))
  before_lands w inputs i at counts is g = record {
    past = g.past;
    completed = g.completed;
    counted = g.counted;
    stands = subst (λ n. Stands told b (Plays (Runs w inputs n at) (enters_after the_run i counts)) (continues told b (f ∷ fs)) g.past r) (sym deeper)
        (subst (λ ms. Stands told b (Plays (Runs w ms (the_run.depth + 1) at) (enters_after the_run i counts)) (continues told b (f ∷ fs)) g.past r) (sym is) g.stands);
  }

  pub again_lands : (id : List ℕ) (i j : ℕ) (at : Spot) (counts : List Count) → j ≡ index_of id (steps_of b f.workflow) → Going (tries_again told b the_run i at counts (first.Step id)) → Landing (Attempt j (Again i counts))
  again_lands id i j at counts is g = subst (λ k. Landing (Attempt k (Again i counts))) (sym is) g

  -- ---- what criteria come to

  module _ {A : Type 0} (meant : List Completion → Outcome A) (at : Spot) (k : List Completion → A → Goal) where
    abbrev Asking : Goal
    Asking seen = with_outcome (meant seen.done) at (λ x. k seen.done x seen)

    -- they are answered; where a pattern isn't told, the execution may be said to go on anywhere
    pub outcome_goes : (x : A) (goal : Goal) → (meant done ≡ given x → (seen : Seen) → k done x seen ≡ goal seen) → Covers (meant done) (given x) → Going Asking → Going goal
    outcome_goes x goal same says g = record {
      past = g.past;
      completed = g.completed;
      counted = g.counted;
      stands = answered (meant done) refl says (at_done (λ d seen. with_outcome (meant d) at (λ y. k d y seen)) g.past g.completed g.stands);
    }
      where
        answered : (o : Outcome A) → meant done ≡ o → Covers o (given x) → Stands told b (with_outcome o at (λ y. k done y (seen_of g.past))) (continues told b (f ∷ fs)) g.past r → Stands told b (goal (seen_of g.past)) (continues told b (f ∷ fs)) g.past r
        answered (given y) is h st =
            let that : y ≡ x = cc in
            let here = subst (λ z. Stands told b (k done z (seen_of g.past)) (continues told b (f ∷ fs)) g.past r) that st in
            subst (λ c. Stands told b c (continues told b (f ∷ fs)) g.past r) (same (is ∙ h) (seen_of g.past)) here
        answered wide is h st = absurd (cc)
        answered untold is h st = untold_stands told b (goal (seen_of g.past)) (continues told b (f ∷ fs)) (continues told b (f ∷ fs)) g.past g.past r st

    -- a selection is too wide
    pub wide_lands : Covers (meant done) wide → Going Asking → Landing (Rest (rests.Ended (EndStuck TooWide at)))
    wide_lands says g = stops_over (Stuck TooWide at) (EndStuck TooWide at) (λ p. refl) refl (record {
      past = g.past;
      completed = g.completed;
      counted = g.counted;
      stands = ended (meant done) says (at_done (λ d seen. with_outcome (meant d) at (λ y. k d y seen)) g.past g.completed g.stands);
    })
      where
        ended : (o : Outcome A) → Covers o wide → Stands told b (with_outcome o at (λ y. k done y (seen_of g.past))) (continues told b (f ∷ fs)) g.past r → Stands told b (Stops (Stuck TooWide at)) (continues told b (f ∷ fs)) g.past r
        ended (given y) h st = absurd (cc)
        ended wide h st = st
        ended untold h st = untold_stands told b (Stops (Stuck TooWide at)) (continues told b (f ∷ fs)) (continues told b (f ∷ fs)) g.past g.past r st

-- ---- the run that is looked at

module _ (told : Patterned) (l : Look) where
  abbrev of_run : (Run → Goal) → Next → Type 0
  of_run meant next =
      (below : List Frame) (sends : ℕ) (r : List Answer) → IsOpenOver l below → (frame : Frame) → run_at frame below ≡ run_in l
      → Goes told (bundle_in l) (frame ∷ below) (scene l).done sends r (meant (run_at frame below)) → Lands told (bundle_in l) (frame ∷ below) (scene l).done sends r next

  leads_as : (meant : Run → Goal) (next : Next) → of_run meant next → Leads told l (meant (run_in l)) next
  leads_as meant next h = λ below sends r deep frame same g.
      h below sends r deep frame same (subst (λ x. Goes told (bundle_in l) (frame ∷ below) (scene l).done sends r (meant x)) (sym same) g)

  outputs_same : (frame : Frame) (below : List Frame) → run_at frame below ≡ run_in l → outputs_at_end (bundle_in l) (run_in l) (scene l).done ≡ outputs_at_end (bundle_in l) (run_at frame below) (scene l).done
  outputs_same frame below same = ap (λ x. outputs_at_end (bundle_in l) x (scene l).done) (sym same)

  pub leads_enter : (i : ℕ) (counts : List Count) → Leads told l (playing (Enters (run_in l) i counts)) (Attempt i (Acts counts))
  leads_enter i counts = leads_as (λ x. playing (Enters x i counts)) (Attempt i (Acts counts)) (λ below sends r deep frame same g. enters_lands told (bundle_in l) frame below (scene l).done sends r i counts g)

  pub leads_next : (i : ℕ) (step : Json) → step_at (bundle_in l) l.frame.now.workflow (i + 1) ≡ Some step → Leads told l (playing (Goes_on (run_in l) i true)) (Attempt (i + 1) (Acts []))
  leads_next i step is = leads_as (λ x. playing (Goes_on x i true)) (Attempt (i + 1) (Acts [])) (λ below sends r deep frame same g.
      next_lands told (bundle_in l) frame below (scene l).done sends r i step (ap (λ x. step_at (bundle_in l) x.workflow (i + 1)) same ∙ is) g)

  pub leads_last : (i : ℕ) → step_at (bundle_in l) l.frame.now.workflow (i + 1) ≡ None → Leads told l (playing (Goes_on (run_in l) i true)) (closed (bundle_in l) (run_in l) (scene l).done true)
  leads_last i is = leads_as (λ x. playing (Goes_on x i true)) (closed (bundle_in l) (run_in l) (scene l).done true) (λ below sends r deep frame same g.
      last_lands told (bundle_in l) frame below (scene l).done sends r i _ (ap (λ x. step_at (bundle_in l) x.workflow (i + 1)) same ∙ is) (outputs_same frame below same) g)

  pub leads_broke : (i : ℕ) → Leads told l (playing (Goes_on (run_in l) i false)) (closed (bundle_in l) (run_in l) (scene l).done false)
  leads_broke i = leads_as (λ x. playing (Goes_on x i false)) (closed (bundle_in l) (run_in l) (scene l).done false) (λ below sends r deep frame same g.
      breaks_lands told (bundle_in l) frame below (scene l).done sends r i _ (outputs_same frame below same) g)

  pub leads_end : (ok : Bool) → Leads told l (playing (Ends_run (run_in l) ok)) (closed (bundle_in l) (run_in l) (scene l).done ok)
  leads_end ok = leads_as (λ x. playing (Ends_run x ok)) (closed (bundle_in l) (run_in l) (scene l).done ok) (λ below sends r deep frame same g.
      ends_lands told (bundle_in l) frame below (scene l).done sends r ok _ (outputs_same frame below same) g)

  pub leads_to : (i : ℕ) → Leads told l (playing (Goes_to (run_in l) i)) (Attempt i (Acts []))
  leads_to i = leads_as (λ x. playing (Goes_to x i)) (Attempt i (Acts [])) (λ below sends r deep frame same g. goes_lands told (bundle_in l) frame below (scene l).done sends r i g)

  pub leads_over : (w : List ℕ) (step : Json) → Leads told l (playing (Goes_over (run_in l) w (spot (run_in l) step))) (opened (run_in l) step w Instead)
  leads_over w step = leads_as (λ x. playing (Goes_over x w (spot (run_in l) step))) (opened (run_in l) step w Instead) (λ below sends r deep frame same g.
      over_lands told (bundle_in l) frame below (scene l).done sends r w _ (spot (run_in l) step) (ap (λ x. x.inputs) (sym same)) g)

  pub leads_wait : (i : ℕ) (step : Json) (counts : List Count) (seconds : ℕ) (before again : First) → again ≡ before → step_at (bundle_in l) l.frame.now.workflow i ≡ Some step → (seconds == 0 || (bundle_in l).skip_delay) ≡ false
      → Leads told l (playing (Retries (run_in l) i (spot (run_in l) step) counts seconds before)) (Rest (rests.Waits seconds i counts again))
  leads_wait i step counts seconds before again alike there later =
      subst (λ x. Leads told l (playing (Retries (run_in l) i (spot (run_in l) step) counts seconds before)) (Rest (rests.Waits seconds i counts x))) (sym alike)
      (leads_as (λ x. playing (Retries x i (spot x step) counts seconds before)) (Rest (rests.Waits seconds i counts before)) (λ below sends r deep frame at g.
      retries_lands told (bundle_in l) frame below (scene l).done sends r i step counts seconds before (ap (λ x. step_at (bundle_in l) x.workflow i) at ∙ there) later g))

  -- the step after is entered, where there is one
  pub went_on : (i : ℕ) (ok : Bool) (o : Option (Bor Planned)) (next : Next) → IsStepAt (bundle_in l) l.frame.now.workflow (i + 1) (option_copied o) → ok ≡ true → is_some o ≡ true → next ≡ Attempt (i + 1) (Acts []) → Leads told l (playing (Goes_on (run_in l) i ok)) next
  went_on i ok None next at good some is = absurd (cc)
  went_on i ok (Some p) next at good some is =
      subst (λ n. Leads told l (playing (Goes_on (run_in l) i ok)) n) (sym is)
      (subst (λ k. Leads told l (playing (Goes_on (run_in l) i k)) (Attempt (i + 1) (Acts []))) (sym good) (leads_next i p.now.step.now at.0))

  pub went_off : (i : ℕ) (ok : Bool) (o : Option (Bor Planned)) (next : Next) → IsStepAt (bundle_in l) l.frame.now.workflow (i + 1) (option_copied o) → ok ≡ true → is_some o ≡ false → next ≡ closed (bundle_in l) (run_in l) (scene l).done ok → Leads told l (playing (Goes_on (run_in l) i ok)) next
  went_off i ok (Some p) next at good none is = absurd (cc)
  went_off i ok None next at good none is =
      subst (λ n. Leads told l (playing (Goes_on (run_in l) i ok)) n) (sym is)
      (subst (λ k. Leads told l (playing (Goes_on (run_in l) i k)) (closed (bundle_in l) (run_in l) (scene l).done k)) (sym good) (leads_last i at))

  pub broke_off : (i : ℕ) (ok : Bool) (next : Next) → ok ≡ false → next ≡ closed (bundle_in l) (run_in l) (scene l).done ok → Leads told l (playing (Goes_on (run_in l) i ok)) next
  broke_off i ok next bad is =
      subst (λ n. Leads told l (playing (Goes_on (run_in l) i ok)) n) (sym is)
      (subst (λ k. Leads told l (playing (Goes_on (run_in l) i k)) (closed (bundle_in l) (run_in l) (scene l).done k)) (sym bad) (leads_broke i))

  -- ---- a step is tried again

  abbrev pub Before_again : (i : ℕ) (step : Json) (counts : List Count) (before : First) → Next → Type 0
  Before_again i step counts before next = of_run (λ x. tries_again told (bundle_in l) x i (spot x step) counts before) next

  pub leads_now : (i : ℕ) (step : Json) (counts : List Count) (seconds : ℕ) (before : First) (next : Next) → (seconds == 0 || (bundle_in l).skip_delay) ≡ true → Before_again i step counts before next
      → Leads told l (playing (Retries (run_in l) i (spot (run_in l) step) counts seconds before)) next
  leads_now i step counts seconds before next now h =
      leads_as (λ x. playing (Retries x i (spot x step) counts seconds before)) next (λ below sends r deep frame at g.
      h below sends r deep frame at (retries_now told (bundle_in l) frame below (scene l).done sends r i (spot (run_at frame below) step) counts seconds before now g))

  pub same_counts : (i : ℕ) (step : Json) (counts more : List Count) (before : First) (next : Next) → more ≡ counts → Before_again i step more before next → Before_again i step counts before next
  same_counts i step counts more before next same h = subst (λ m. Before_again i step m before next) same h

  pub again_nothing : (i : ℕ) (step : Json) (counts : List Count) (before : First) (next : Next) → before ≡ first.Nothing → next ≡ Attempt i (Acts counts) → Before_again i step counts before next
  again_nothing i step counts before next none is =
      subst (λ n. Before_again i step counts before n) (sym is)
      (subst (λ x. Before_again i step counts x (Attempt i (Acts counts))) (sym none)
      (λ below sends r deep frame same g. enters_lands told (bundle_in l) frame below (scene l).done sends r i counts g))

  pub again_step : (id : List ℕ) (i j : ℕ) (step : Json) (counts : List Count) (before : First) (next : Next) → before ≡ first.Step id → j ≡ index_of id (steps_of (bundle_in l) l.frame.now.workflow) → next ≡ Attempt j (Again i counts) → Before_again i step counts before next
  again_step id i j step counts before next named at is =
      subst (λ n. Before_again i step counts before n) (sym is)
      (subst (λ x. Before_again i step counts x (Attempt j (Again i counts))) (sym named)
      (λ below sends r deep frame same g.
      again_lands told (bundle_in l) frame below (scene l).done sends r id i j (spot (run_at frame below) step) counts (at ∙ ap (λ x. index_of id (steps_of (bundle_in l) x.workflow)) (sym same)) g))

  pub again_flow : (w : List ℕ) (i : ℕ) (step : Json) (counts : List Count) (before : First) (next : Next) → before ≡ first.Flow w → next ≡ opened (run_in l) step w (Before i counts) → Before_again i step counts before next
  again_flow w i step counts before next named is =
      subst (λ n. Before_again i step counts before n) (sym is)
      (subst (λ x. Before_again i step counts x (opened (run_in l) step w (Before i counts))) (sym named)
      (λ below sends r deep frame same g.
      before_lands told (bundle_in l) frame below (scene l).done sends r w _ i (spot (run_in l) step) counts (ap (λ x. x.inputs) (sym same))
      (subst (λ x. Goes told (bundle_in l) (frame ∷ below) (scene l).done sends r (tries_again told (bundle_in l) (run_at frame below) i (spot x step) counts (first.Flow w))) same g)))

  pub entered_again : (j : Judged) (next : Then) (i : ℕ) (counts : List Count) (goal : Next) → next ≡ Again i counts → goal ≡ Attempt i (Acts counts) → Leads told l (then_of told (bundle_in l) j.index j.planned.now.step.now next (tried_in l j)) goal
  entered_again j next i counts goal again is =
      subst (λ n. Leads told l (then_of told (bundle_in l) j.index j.planned.now.step.now next (tried_in l j)) n) (sym is)
      (subst (λ x. Leads told l (then_of told (bundle_in l) j.index j.planned.now.step.now x (tried_in l j)) (Attempt i (Acts counts))) (sym again) (leads_enter i counts))

  -- ---- the action that is chosen

  module _ (j : Judged) (counts : List Count) where
    abbrev the_step : Json
    the_step = j.planned.now.step.now

    abbrev chosen_of : List Completion → Outcome (Option Json)
    chosen_of d = choice told (spoken_of (bundle_in l) (run_in l) d (own_of j.own)) counts (actions_at (bundle_in l) l.frame.now.workflow the_step j.succeeded)

    abbrev chosen_case_of : Option Json → Case
    chosen_case_of chosen = chosen_case (bundle_in l) j.index (spot (run_in l) the_step) counts (tried_in l j) chosen

    abbrev Acting : Next → Type 0
    Acting next = Leads told l (acts told (bundle_in l) j.index the_step counts (tried_in l j)) next

    pub chosen_leads : (chosen : Option Json) (case : Case) (next : Next) → (chosen_of (scene l).done ≡ given chosen → chosen_case_of chosen ≡ case) → Covers (chosen_of (scene l).done) (given chosen) → Leads told l (playing case) next → Acting next
    chosen_leads chosen case next same says h = λ below sends r deep frame at g.
        h below sends r deep frame at
        (outcome_goes told (bundle_in l) frame below (scene l).done sends r chosen_of (spot (run_in l) the_step) (λ d x. playing (chosen_case_of x)) chosen (playing case)
        (λ is seen. ap (λ c. playing c seen) (same is)) says g)

    pub wide_leads : (next : Next) → Covers (chosen_of (scene l).done) wide → next ≡ widened (run_in l) the_step → Acting next
    wide_leads next says is = λ below sends r deep frame at g.
        subst (λ n. Lands told (bundle_in l) (frame ∷ below) (scene l).done sends r n) (sym is)
        (wide_lands told (bundle_in l) frame below (scene l).done sends r chosen_of (spot (run_in l) the_step) (λ d x. playing (chosen_case_of x)) says g)

-- a retry that is chosen was made less often than it may be
pub choice_left : (told : Patterned) (found : Base → Option Json) (counts : List Count) (actions : List Json) (a : Json) → choice told found counts actions ≡ given (Some a) → is_used_up counts a ≡ false
choice_left told found counts [] a e = absurd (cc)
choice_left told found counts (x ∷ xs) a e = by_test (choice_left told found counts xs a) (is_used_up counts x) refl e
  where
    by_holds : (choice told found counts xs ≡ given (Some a) → is_used_up counts a ≡ false) → (o : Outcome Bool) → is_used_up counts x ≡ false → and_then (λ holds. if holds then given (Some x) else choice told found counts xs) o ≡ given (Some a) → is_used_up counts a ≡ false
    by_holds later (given true) left h = let same : x ≡ a = cc in ap (is_used_up counts) (sym same) ∙ left
    by_holds later (given false) left h = later h
    by_holds later wide left h = absurd (cc)
    by_holds later untold left h = absurd (cc)

    by_test : (choice told found counts xs ≡ given (Some a) → is_used_up counts a ≡ false) → (used : Bool) → is_used_up counts x ≡ used → (if used then choice told found counts xs else and_then (λ holds. if holds then given (Some x) else choice told found counts xs) (all_hold told found (criteria_in x))) ≡ given (Some a) → is_used_up counts a ≡ false
    by_test later true used h = later h
    by_test later false left h = by_holds later (all_hold told found (criteria_in x)) left h

pub on_ok : {X E : Type 0} {A B : X → Type 0} (o : Result X E) → ((x : X) → A x → B x) → IfOk o A → IfOk o B
on_ok (Ok x) f h = f x h
on_ok (Err e) f h = h

-- ---- what the action does

module _ (l : Look) (j : Judged) (counts : List Count) (action : Ready) where
  abbrev case_by : Act → Case
  case_by a = act_case (bundle_in l) j.index (spot (run_in l) j.planned.now.step.now) counts (tried_in l j) action.name a

  pub takes_end : (next : Next) → action.act ≡ act.End → next ≡ closed (bundle_in l) (run_in l) (scene l).done j.succeeded → Takes l j counts action next
  takes_end next at is = record {
    case = Ends_run (run_in l) j.succeeded;
    is = λ left. ap case_by (sym at);
    leads = λ told. subst (λ n. Leads told l (playing (Ends_run (run_in l) j.succeeded)) n) (sym is) (leads_end told l j.succeeded);
  }

  pub takes_step : (id : List ℕ) (i : ℕ) (next : Next) → action.act ≡ act.GoStep id → i ≡ index_of id (steps_of (bundle_in l) l.frame.now.workflow) → next ≡ Attempt i (Acts []) → Takes l j counts action next
  takes_step id i next at found is = record {
    case = Goes_to (run_in l) i;
    is = λ left. ap (Goes_to (run_in l)) found ∙ ap case_by (sym at);
    leads = λ told. subst (λ n. Leads told l (playing (Goes_to (run_in l) i)) n) (sym is) (leads_to told l i);
  }

  pub takes_flow : (w : List ℕ) (next : Next) → action.act ≡ act.GoFlow w → next ≡ opened (run_in l) j.planned.now.step.now w Instead → Takes l j counts action next
  takes_flow w next at is = record {
    case = Goes_over (run_in l) w (spot (run_in l) j.planned.now.step.now);
    is = λ left. ap case_by (sym at);
    leads = λ told. subst (λ n. Leads told l (playing (Goes_over (run_in l) w (spot (run_in l) j.planned.now.step.now))) n) (sym is) (leads_over told l w j.planned.now.step.now);
  }

  pub takes_retry : (seconds limit : ℕ) (before : First) (more : List Count) (delay : ℕ) (next : Next) → action.act ≡ act.Retry seconds limit before → (nat_le limit (made_of action.name counts) ≡ false → more ≡ once_more action.name counts) → delay ≡ delay_after seconds (own_of j.own)
      → ((told : Patterned) → Leads told l (playing (Retries (run_in l) j.index (spot (run_in l) j.planned.now.step.now) more delay before)) next) → Takes l j counts action next
  takes_retry seconds limit before more delay next at counted waits leads = record {
    case = Retries (run_in l) j.index (spot (run_in l) j.planned.now.step.now) more delay before;
    is = λ left.
        let once = counted (sym (ap (λ a. is_used_up_by a (made_of action.name counts)) at) ∙ left) in
        ap₂ (λ m d. let c : Case = Retries (run_in l) j.index (spot (run_in l) j.planned.now.step.now) m d before in c) once waits ∙ ap case_by (sym at);
    leads = leads;
  }

-- the action at an index, as it is read
read_at : (actions : List Json) (i : ℕ) (ready : Ready) → slice_get (map ready_of actions) i ≡ Some ready → (a : Json) × (slice_get actions i ≡ Some a) × (ready ≡ ready_of a)
read_at [] i ready e = absurd (cc)
read_at (a ∷ actions) zero ready e = let same : ready ≡ ready_of a = cc in (a, refl, same)
read_at (a ∷ actions) (suc i) ready e = read_at actions i ready e

-- the actions of a step of a workflow that is there, as they are read
actions_read : (b : Bundle) (id : List ℕ) (p : Planned) (ok : Bool) → IsStep b id p → actions_after p ok ≡ map ready_of (actions_at b id p.step.now ok)
actions_read b id p true is =
    is.planned.success ∙ ap (λ (o : Option Json). map ready_of (joined_actions (step_actions b true p.step.now) (actions_in b true o))) (sym is.named)
actions_read b id p false is =
    is.planned.failure ∙ ap (λ (o : Option Json). map ready_of (joined_actions (step_actions b false p.step.now) (actions_in b false o))) (sym is.named)

module _ (told : Patterned) (l : Look) (j : Judged) (counts : List Count) where
  abbrev the_actions : List Json
  the_actions = actions_at (bundle_in l) l.frame.now.workflow j.planned.now.step.now j.succeeded

  -- no action is chosen
  pub none_leads : (o : Option ℕ) (next : Next) → o ≡ None → IsChoice the_actions (chosen_of told l j counts (scene l).done) o → Leads told l (playing (Goes_on (run_in l) j.index j.succeeded)) next → Acting told l j counts next
  none_leads o next none says h = chosen_leads told l j counts None (Goes_on (run_in l) j.index j.succeeded) next (λ is. refl) (subst (λ x. IsChoice the_actions (chosen_of told l j counts (scene l).done) x) none says) h

  -- one is
  pub one_leads : (o : Option ℕ) (i : ℕ) (ready : Ready) (next : Next) → o ≡ Some i → IsChoice the_actions (chosen_of told l j counts (scene l).done) o → IsStep (bundle_in l) l.frame.now.workflow j.planned.now
      → slice_get (actions_after j.planned.now j.succeeded) i ≡ Some ready → Takes l j counts ready next → Acting told l j counts next
  one_leads o i ready next some says step at takes =
      let read = read_at the_actions i ready (ap (λ rs. slice_get rs i) (sym (actions_read (bundle_in l) l.frame.now.workflow j.planned.now j.succeeded step)) ∙ at) in
      let chosen = subst (λ x. IsChoice the_actions (chosen_of told l j counts (scene l).done) x) some says in
      let here = subst (λ a. Takes l j counts a next) read.2 takes in
      chosen_leads told l j counts (Some read.0) here.case next
      (λ is. sym (here.is (choice_left told (spoken_of (bundle_in l) (run_in l) (scene l).done (own_of j.own)) counts the_actions read.0 is)))
      (subst (λ x. Covers (chosen_of told l j counts (scene l).done) (given x)) read.1 chosen.1) (here.leads told)

-- ---- the attempt

run_same : (l : Look) (below : List Frame) → l.fact ≡ None → IsOpenOver l below → run_at l.frame.now below ≡ run_in l
run_same l below fresh deep =
    ap₂ (λ (n : ℕ) (o : Option (Bor Fact)). let x : Run = record { workflow = l.frame.now.workflow; inputs = l.frame.now.inputs; depth = n; facts = facts_after (option_copied o) l.frame.now.facts } in x) (sym deep) (sym fresh)

module _ (told : Patterned) (l : Look) (below : List Frame) (sends : ℕ) (r : List Answer) (fresh : l.fact ≡ None) (deep : IsOpenOver l below) (step : Json) (own : Own) (plain : Bool) where
  abbrev the_verdict : List Completion → Outcome Bool
  the_verdict d = verdict told (spoken_of (bundle_in l) (run_in l) d own) plain (criteria_of step)

  abbrev Judging : (Tried → Goal) → Type 0
  Judging k = Goes told (bundle_in l) (l.frame.now ∷ below) (scene l).done sends r (judged told (bundle_in l) (run_at l.frame.now below) step own plain k)

  as_seen : (k : Tried → Goal) → Judging k → Goes told (bundle_in l) (l.frame.now ∷ below) (scene l).done sends r (judged told (bundle_in l) (run_in l) step own plain k)
  as_seen k g = subst (λ x. Goes told (bundle_in l) (l.frame.now ∷ below) (scene l).done sends r (judged told (bundle_in l) x step own plain k)) (run_same l below fresh deep) g

  abbrev at_fact : (Tried → Goal) → List Completion → Bool → Goal
  at_fact k d ok = k (tried (bundle_in l) (run_in l) d step own ok)

  pub unjudged_lands : (k : Tried → Goal) (fact : Option Fact) (next : Next) → Covers (the_verdict (scene l).done) wide → fact ≡ None → next ≡ widened (run_in l) step → Judging k
      → Lands told (bundle_in l) (with_top fact (l.frame.now ∷ below)) (scene l).done sends r next
  unjudged_lands k fact next says none is g =
      subst (λ o. Lands told (bundle_in l) (with_top o (l.frame.now ∷ below)) (scene l).done sends r next) (sym none)
      (subst (λ n. Lands told (bundle_in l) (l.frame.now ∷ below) (scene l).done sends r n) (sym is)
      (wide_lands told (bundle_in l) l.frame.now below (scene l).done sends r the_verdict (spot (run_in l) step) (at_fact k) says (as_seen k g)))

  pub judged_lands : (later : Patterned) → later ≡ told → (ok : Bool) (fact : Fact) (m : Look) (index : ℕ) (next : Then) (goal : Next) → Covers (the_verdict (scene l).done) (given ok) → fact ≡ new_fact (bundle_in l) (run_in l) (scene l).done step own → HasFact l fact m
      → Leads later m (then_of later (bundle_in m) index step next (record { ok = ok; run = run_in m; own = own })) goal
      → Judging (then_of told (bundle_in l) index step next) → Lands told (bundle_in l) (with_top (Some fact) (l.frame.now ∷ below)) (scene l).done sends r goal
  judged_lands later same_told ok fact m index next goal says made has leads g =
      let k = then_of told (bundle_in l) index step next in
      let after : Scene = record { bundle = bundle_in l; run = and_fact (run_in l) fact; done = (scene l).done } in
      let here : Goes told (bundle_in l) (l.frame.now ∷ below) (scene l).done sends r (k (tried (bundle_in l) (run_in l) (scene l).done step own ok))
      = outcome_goes told (bundle_in l) l.frame.now below (scene l).done sends r the_verdict (spot (run_in l) step) (at_fact k) ok (at_fact k (scene l).done ok) (λ is seen. refl) says (as_seen k g) in
      let by_fact = subst (λ x. Goes told (bundle_in l) (l.frame.now ∷ below) (scene l).done sends r (k (record { ok = ok; run = and_fact (run_in l) x; own = own }))) (sym made) here in
      let there = subst (λ t. LeadsAt t after (then_of t after.bundle index step next (record { ok = ok; run = after.run; own = own })) goal) same_told
      (subst (λ s. LeadsAt later s (then_of later s.bundle index step next (record { ok = ok; run = s.run; own = own })) goal) has.same leads) in
      there below sends r deep (record l.frame.now { facts = with_fact fact l.frame.now.facts }) (ap (λ x. and_fact x fact) (run_same l below fresh deep))
      (record { past = by_fact.past; completed = by_fact.completed; counted = by_fact.counted; stands = by_fact.stands })

-- ---- why nothing is answered

pub wide_chosen : (actions : List Json) (meant : Outcome (Option Json)) (old new : PatternsView) (e : CondFault) → e ≡ fault.TooWide → (let o : Result (Option ℕ) CondFault = Err e in Chooses actions meant old new o) → Covers meant wide
wide_chosen actions meant old new e is says = subst (λ x. let o : Result (Option ℕ) CondFault = Err x in Chooses actions meant old new o) is says

pub wide_says : (meant : Outcome Bool) (old new : PatternsView) (e : CondFault) → e ≡ fault.TooWide → Fails e meant old new → Covers meant wide
wide_says meant old new e is says = subst (λ x. Fails x meant old new) is says

-- ---- whether time passes before a retry

pub either : (a b : Bool) → b ≡ true → (a || b) ≡ true
either true b h = refl
either false b h = h

pub neither : (a b : Bool) → a ≡ false → b ≡ false → (a || b) ≡ false
neither true b g h = absurd (cc)
neither false b g h = h
