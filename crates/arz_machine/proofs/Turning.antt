-- The turns of an execution that the machine makes.
use Rattle.std.proofs.Common.{◌≡◌, ℕ, ◌+◌, ◌==◌, Bool, true, false, if◌then◌else◌, length-append, List, [], ◌∷◌, ◌++◌, length, Option, Some, None, refl, sym, ap, ◌∙◌, subst, arith}
use Rattle.std.specs.Prelude.{slice_get}
use Rattle.std.specs.declared.result.Result.TheVariants.{Ok, Err}
use Rattle.arz_json.specs.Tree.{has_opaque}
use Rattle.arz_json.specs.declared.Json.{Json}
use Rattle.arz_json.specs.declared.Json.TheVariants.{Object}
use Rattle.arz_json.specs.declared.Member.{Member}
use Rattle.arz_world.specs.declared.Request.{Request}
use Rattle.arz_world.specs.declared.Reply.{Reply}
use Rattle.arz_flow.specs.declared.answers.Ask.TheVariants.{Send}
use Rattle.arz_flow.specs.declared.answers.Answer.{Answer}
use Rattle.arz_flow.specs.declared.answers.Answer.TheVariants.{Reply as Replied, Served}
use Rattle.arz_flow.specs.declared.answers.End.{End}
use Rattle.arz_flow.specs.declared.answers.End.TheVariants.{Completed as EndCompleted, Broke as EndBroke, Out as EndOut, Stuck as EndStuck, Budget as EndBudget}
use Rattle.arz_flow.specs.declared.answers.Spot.{Spot}
use Rattle.arz_flow.specs.declared.bundle.Bundle.{Bundle}
use Rattle.arz_scope.specs.declared.facts.Fact.{Fact}
use Rattle.arz_flow.specs.Documents.{steps_of, workflow_named}
use Rattle.arz_request.specs.Causes.{Made}
use Rattle.arz_flow.specs.Requests.{request_of}
use Rattle.arz_scope.specs.Scopes.{Nothing, found}
use Rattle.arz_flow.specs.Play.{Result, Completed, Broke, Completion, Halt, Stuck, Budget, sends_in, Ends, Script, Give, Stops, Plays, Sends as SendsNext}
use Rattle.arz_flow.specs.Cases.{Case, Runs, Enters, Goes_on, Closes, give, after_run, begun, surroundings, with_step, with_request, within_budget, with_verdict, verdict_of, spot, fact_of, with_fact, after_reply, attempt, next_step, result, outputs_at_end, script}
use Rattle.arz_flow.specs.Executions.{end_of, end_of_result, TookAll, end, Fitting, IsTold}
use Rattle.arz_flow.specs.Stands.{Past, nothing_yet, state, seen_of, turned, asked_more, done_more, Follow, Stands}
use Rattle.arz_flow.specs.Verdicts.{Patterned}
use Rattle.arz_path.specs.Outcome.{Outcome, given, wide, untold, Covers}
use Rattle.arz_request.specs.declared.cause.Cause.TheVariants.{TooWide}
use Rattle.arz_flow.proofs.Budget.{send_counts}
use Rattle.arz_flow.proofs.Standing.{start_stands, case_stands, call_stands, pop_stands, record_stands, reply_stands, untold_stands, sends_whole, gives_whole, stops_whole}
use Rattle.arz_machine.specs.States.{Rest, Sends, Ended, run_of, is_spent, rest_by, request_in, entered, next_fact, verdict_in, closed, goes_to}
use Rattle.arz_machine.specs.Rests.{open_runs, IsSending, lacks_answer, IsOver, Rests, takes}

-- ---- ends

plain_settled : (b : Bool) (w : List ℕ) (outputs : List Member) (d e : End) → lacks_answer d ≡ false → lacks_answer e ≡ false → lacks_answer (if b then d else e) ≡ false
plain_settled true w outputs d e x y = x
plain_settled false w outputs d e x y = y

result_settled : (w : List ℕ) (o : Result) → lacks_answer (end_of_result w o) ≡ false
result_settled w (Completed outputs) = plain_settled (has_opaque (Object outputs)) w outputs _ _ refl refl
result_settled w (Broke outputs) = plain_settled (has_opaque (Object outputs)) w outputs _ _ refl refl

takes_none : (e : End) (a : Answer) → lacks_answer e ≡ false → takes (Some e) a ≡ false
takes_none (EndCompleted outputs) a f = refl
takes_none (EndBroke outputs) a f = refl
takes_none (EndStuck cause at) a f = refl
takes_none (EndBudget limit) a f = refl
takes_none (EndOut q) a f = absurd cc

module _ (told : Patterned) where
  -- an execution that stands at a result has ended
  gives_over : (b : Bundle) (o : Result) (p : Past) (r : List Answer) → Stands told b (Give o) [] p r → IsOver told b (end_of_result b.workflow o) r
  gives_over b o p r st =
      record {
        fitting = λ t. subst TookAll (sym (gives_whole told b o p r st t)) refl;
        end = λ t. ap (end_of b.workflow) (gives_whole told b o p r st t);
        settled = result_settled b.workflow o;
      }

  over_at : (b : Bundle) (ok : Bool) (outputs : List Member) (v p : Past) (r : List Answer) → Stands told b (after_run b.workflow b.inputs (result ok outputs) (seen_of v)) [] p r → IsOver told b (end_of_result b.workflow (result ok outputs)) r
  over_at b true outputs v p r st =
      let done : Completion = record { workflow = b.workflow; inputs = b.inputs; outputs = outputs } in
      gives_over b (Completed outputs) (done_more p done) r (record_stands told b done (Give (Completed outputs)) [] p r st)
  over_at b false outputs v p r st = gives_over b (Broke outputs) p r st

  -- a run that is closed is over
  closes : (b : Bundle) (facts : List Fact) (i : ℕ) (ok : Bool) (q p : Past) (r : List Answer) → q.done ≡ [] → Stands told b (script told b (Closes (run_of b facts) ok) (seen_of q)) (open_runs b) p r → Rests told b facts i (closed b facts ok) r
  unfolding script
  closes b facts i ok q p r fresh st =
      let outputs = outputs_at_end b (run_of b facts) q.done in
      let over = over_at b ok outputs p p r (pop_stands told b (result ok outputs) (after_run b.workflow b.inputs) [] p r st) in
      subst (λ d. IsOver told b (end_of_result b.workflow (result ok (outputs_at_end b (run_of b facts) d))) r) fresh over

  -- ---- steps

  -- where everything ends the execution has ended
  stops_over : (b : Bundle) (h : Halt) (e : End) (p : Past) (r : List Answer) → end_of b.workflow (Ends h (state [] p)) ≡ Some e → lacks_answer e ≡ false → Stands told b (Stops h) (open_runs b) p r → IsOver told b e r
  stops_over b h e p r is settled st =
      record {
        fitting = λ t. subst TookAll (sym (stops_whole told b h (open_runs b) p r st t)) refl;
        end = λ t. ap (end_of b.workflow) (stops_whole told b h (open_runs b) p r st t) ∙ is;
        settled = settled;
      }

  -- as many requests were sent as there are facts
  abbrev Counts : Past → List Fact → Type 0
  Counts p facts = sends_in p.asked ≡ length facts

  -- where a request can be made and one more may be sent it is to be sent, and otherwise the execution has ended
  rested : (b : Bundle) (facts : List Fact) (i : ℕ) (step : Json) (o : Made Request) (at : Spot) (q p : Past) (r : List Answer) → slice_get (steps_of b b.workflow) i ≡ Some step → p.done ≡ [] → Counts q facts → Counts p facts
      → Stands told b (with_request o at (λ x. within_budget b (seen_of q) (SendsNext x (after_reply told b (run_of b facts) i step x)))) (open_runs b) p r → Rests told b facts i (rest_by b facts o at) r
  rested b facts i step (Ok x) at q p r there fresh sent counted st =
      by_test (is_spent b facts) (subst (λ n. Stands told b (if n == b.max_attempts then Stops (Budget b.max_attempts) else next) (open_runs b) p r) sent st)
    where
      next : Script Case
      next = SendsNext x (after_reply told b (run_of b facts) i step x)

      by_test : (spent : Bool) → Stands told b (if spent then Stops (Budget b.max_attempts) else next) (open_runs b) p r → Rests told b facts i (if spent then Ended (EndBudget b.max_attempts) else Sends x) r
      by_test true here = stops_over b (Budget b.max_attempts) (EndBudget b.max_attempts) p r refl refl here
      by_test false here = record { step = step; there = there; past = p; fresh = fresh; counted = counted; stands = here }
  rested b facts i step (Err cause) at q p r there fresh sent counted st = stops_over b (Stuck cause at) (EndStuck cause at) p r refl refl st

  -- a step that is there is entered
  enters : (b : Bundle) (facts : List Fact) (i : ℕ) (step : Json) (q p : Past) (r : List Answer) → slice_get (steps_of b b.workflow) i ≡ Some step → q.done ≡ [] → p.done ≡ [] → Counts q facts → Counts p facts
      → Stands told b (script told b (Enters (run_of b facts) i) (seen_of q)) (open_runs b) p r → Rests told b facts i (entered b facts step) r
  unfolding script
  enters b facts i step q p r there none fresh sent counted st =
      let run = run_of b facts in
      let at_step = subst (λ o. Stands told b (with_step o (attempt told b run i (seen_of q))) (open_runs b) p r) there st in
      let by_done = subst (λ d. Stands told b (with_request (request_of b (found (surroundings b run d) Nothing) (workflow_named run.workflow b.arazzo) step) (spot run step) (λ x. within_budget b (seen_of q) (SendsNext x (after_reply told b run i step x)))) (open_runs b) p r) none at_step in
      rested b facts i step (request_in b facts step) (spot run step) q p r there fresh sent counted by_done

  -- the first step is entered before the first answer
  pub begins : (b : Bundle) (step : Json) → slice_get (steps_of b b.workflow) 0 ≡ Some step → Rests told b [] 0 (entered b [] step) []
  unfolding script
  begins b step e =
      enters b [] 0 step (turned nothing_yet) (turned (turned nothing_yet)) [] e refl refl refl refl
      (call_stands told b (Enters (begun b.workflow b.inputs) 0) (after_run b.workflow b.inputs) [] (turned nothing_yet) []
      (case_stands told b (Runs b.workflow b.inputs) [] nothing_yet [] (start_stands told b)))

  -- after a successful attempt the next step is entered, or the run is over
  follows : (b : Bundle) (facts : List Fact) (i : ℕ) (o : Option Json) (p : Past) (r : List Answer) → slice_get (steps_of b b.workflow) i ≡ o → p.done ≡ [] → Counts p facts → Stands told b (Plays (next_step (run_of b facts) i o) give) (open_runs b) p r → Rests told b facts i (goes_to b facts true o) r
  follows b facts i None p r e fresh counted st = closes b facts i true p (turned p) r fresh (case_stands told b (Closes (run_of b facts) true) (open_runs b) p r st)
  follows b facts i (Some step) p r e fresh counted st = enters b facts i step p (turned p) r e fresh fresh counted counted (case_stands told b (Enters (run_of b facts) i) (open_runs b) p r st)

  goes_on : (b : Bundle) (facts : List Fact) (i : ℕ) (ok : Bool) (p : Past) (r : List Answer) → p.done ≡ [] → Counts p facts → Stands told b (Plays (Goes_on (run_of b facts) i ok) give) (open_runs b) p r → Rests told b facts (i + 1) (goes_to b facts ok (slice_get (steps_of b b.workflow) (i + 1))) r
  unfolding script
  goes_on b facts i true p r fresh counted st =
      follows b facts (i + 1) (slice_get (steps_of b b.workflow) (i + 1)) (turned p) r refl fresh counted (case_stands told b (Goes_on (run_of b facts) i true) (open_runs b) p r st)
  goes_on b facts i false p r fresh counted st =
      closes b facts (i + 1) false (turned p) (turned (turned p)) r fresh
      (case_stands told b (Closes (run_of b facts) false) (open_runs b) (turned p) r (case_stands told b (Goes_on (run_of b facts) i false) (open_runs b) p r st))

  -- ---- verdicts

  -- what follows a verdict that is answered; where a pattern isn't told, the execution may be said to stand there too
  as_verdict : (b : Bundle) (meant : Outcome Bool) (ok : Bool) (at : Spot) (k : Bool → Script Case) (ks : List Follow) (p : Past) (r : List Answer) → Covers meant (given ok)
      → Stands told b (with_verdict meant at k) ks p r → Stands told b (k ok) ks p r
  as_verdict b (given x) ok at k ks p r h st = let same : x ≡ ok = cc in subst (λ z. Stands told b (k z) ks p r) same st
  as_verdict b wide ok at k ks p r h st = absurd (cc)
  as_verdict b untold ok at k ks p r h st = untold_stands told b (k ok) ks ks p p r st

  as_wide : (b : Bundle) (meant : Outcome Bool) (at : Spot) (k : Bool → Script Case) (ks : List Follow) (p : Past) (r : List Answer) → Covers meant wide
      → Stands told b (with_verdict meant at k) ks p r → Stands told b (Stops (Stuck TooWide at)) ks p r
  as_wide b (given x) at k ks p r h st = absurd (cc)
  as_wide b wide at k ks p r h st = st
  as_wide b untold at k ks p r h st = untold_stands told b (Stops (Stuck TooWide at)) ks ks p p r st

  -- what follows an attempt, by whether it succeeded
  abbrev turn : Bundle → List Fact → (i : ℕ) → List Completion → Json → Request → Reply → Bool → Script Case
  turn b facts i done step q y ok = Plays (Goes_on (with_fact (run_of b facts) (fact_of b (run_of b facts) done step q y)) i ok) give

  -- a reply is taken, and the criteria are tried
  tried : (b : Bundle) (facts : List Fact) (i : ℕ) (q : Request) (y : Reply) (r : List Answer) (at : IsSending told b facts i q r)
      → Stands told b (with_verdict (verdict_in told b facts at.step q y) (spot (run_of b facts) at.step) (turn b facts i [] at.step q y)) (open_runs b) (asked_more at.past (Send q)) (r ++ Replied y ∷ [])
  tried b facts i q y r at =
      let p = asked_more at.past (Send q) in
      let run = run_of b facts in
      let replied : Stands told b (with_verdict (verdict_of told b run at.past.done at.step q y) (spot run at.step) (turn b facts i at.past.done at.step q y)) (open_runs b) p (r ++ Replied y ∷ [])
      = reply_stands told b q y (after_reply told b run i at.step q) (open_runs b) at.past r at.stands in
      subst (λ d. Stands told b (with_verdict (verdict_of told b run d at.step q y) (spot run at.step) (turn b facts i d at.step q y)) (open_runs b) p (r ++ Replied y ∷ [])) at.fresh replied

  -- where the criteria are answered the fact is added, and the execution goes on
  pub goes_next : (b : Bundle) (facts : List Fact) (i : ℕ) (q : Request) (y : Reply) (r : List Answer) (ok : Bool) (at : IsSending told b facts i q r) → Covers (verdict_in told b facts at.step q y) (given ok)
      → let more = facts ++ next_fact b facts at.step q y ∷ [] in Rests told b more (i + 1) (goes_to b more ok (slice_get (steps_of b b.workflow) (i + 1))) (r ++ Replied y ∷ [])
  goes_next b facts i q y r ok at says =
      let p = asked_more at.past (Send q) in
      let here = as_verdict b _ ok (spot (run_of b facts) at.step) (turn b facts i [] at.step q y) (open_runs b) p (r ++ Replied y ∷ []) says (tried b facts i q y r at) in
      let one_more : sends_in p.asked ≡ length (facts ++ next_fact b facts at.step q y ∷ []) = omega (arith, send_counts at.past.asked q, at.counted, length-append facts (next_fact b facts at.step q y ∷ [])) in
      goes_on b (facts ++ next_fact b facts at.step q y ∷ []) i ok p (r ++ Replied y ∷ []) at.fresh one_more here

  -- where a selection is too wide the execution has ended
  pub goes_wide : (b : Bundle) (facts : List Fact) (i : ℕ) (q : Request) (y : Reply) (r : List Answer) (at : IsSending told b facts i q r) → Covers (verdict_in told b facts at.step q y) wide
      → IsOver told b (EndStuck TooWide (spot (run_of b facts) at.step)) (r ++ Replied y ∷ [])
  goes_wide b facts i q y r at says =
      let at_step = spot (run_of b facts) at.step in
      let p = asked_more at.past (Send q) in
      stops_over b (Stuck TooWide at_step) (EndStuck TooWide at_step) p (r ++ Replied y ∷ []) refl refl
      (as_wide b _ at_step (turn b facts i [] at.step q y) (open_runs b) p (r ++ Replied y ∷ []) says (tried b facts i q y r at))

  -- ---- what the execution comes to where it rests

  -- an execution that rests at a send lacks its reply
  pub sending_out : (b : Bundle) (facts : List Fact) (i : ℕ) (q : Request) (r : List Answer) → IsSending told b facts i q r → IsTold told b r → Fitting told b r × (end told b r ≡ Some (EndOut (Send q)))
  sending_out b facts i q r at t =
      let same = sends_whole told b q (after_reply told b (run_of b facts) i at.step q) (open_runs b) at.past r at.stands t in
      (subst TookAll (sym same) refl, ap (end_of b.workflow) same)

  -- all answers so far were taken
  pub rests_fitting : (b : Bundle) (facts : List Fact) (i : ℕ) (s : Rest) (r : List Answer) → Rests told b facts i s r → IsTold told b r → Fitting told b r
  rests_fitting b facts i (Sends q) r at t = (sending_out b facts i q r at t).0
  rests_fitting b facts i (Ended e) r over t = over.fitting t

  -- an execution that has ended takes no answer
  pub over_takes : (b : Bundle) (e : End) (r : List Answer) (a : Answer) → IsOver told b e r → IsTold told b r → takes (end told b r) a ≡ false
  over_takes b e r a over t = ap (λ x. takes x a) (over.end t) ∙ takes_none e a over.settled

  -- an execution that rests at a send takes a reply, and nothing else
  pub sending_takes : (b : Bundle) (facts : List Fact) (i : ℕ) (q : Request) (r : List Answer) (y : Reply) → IsSending told b facts i q r → IsTold told b r → takes (end told b r) (Replied y) ≡ true
  sending_takes b facts i q r y at t = ap (λ x. takes x (Replied y)) (sending_out b facts i q r at t).1

  pub no_served : (b : Bundle) (facts : List Fact) (i : ℕ) (s : Rest) (r : List Answer) → Rests told b facts i s r → IsTold told b r → takes (end told b r) Served ≡ false
  no_served b facts i (Sends q) r at t = ap (λ x. takes x Served) (sending_out b facts i q r at t).1
  no_served b facts i (Ended e) r over t = over_takes b e r Served over t
