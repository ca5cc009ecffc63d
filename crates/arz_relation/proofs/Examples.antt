-- Worked plays of short workflows: what is asked of the outside, and how it ends.
use Rattle.std.proofs.Common.{◌≡◌, ℕ, zero, suc, ◌+◌, ◌<◌, ◌==◌, List, [], ◌∷◌, refl, ap, ◌∙◌, Bool, true, false, Option, Some, None, codes, arith}
use Rattle.std.specs.Prelude.{pos}
use Rattle.std.specs.Ordering.{int_eq}
use Rattle.std.proofs.lemmas.Bool.{ne_eqb}
use Rattle.std.proofs.lemmas.Slice.Eq.{bytes_eq-Decides}
use Rattle.arz_json.specs.declared.Json.{Json}
use Rattle.arz_json.specs.declared.Member.{Member}
use Rattle.std.specs.declared.result.Result.TheVariants.{Ok}
use Rattle.arz_world.specs.declared.Reply.{Reply}
use Rattle.arz_world.specs.declared.Request.{Request}
use Rattle.arz_expr.specs.declared.syntax.Base.{Base}
use Rattle.arz_operation.specs.declared.types.Call.TheVariants as call
use Rattle.arz_description.specs.Calls.{call_of}
use Rattle.arz_description.specs.Parts.{act_of}
use Rattle.arz_description.specs.declared.parts.Act.TheVariants as act
use Rattle.arz_description.specs.declared.parts.First.TheVariants as first
use Rattle.arz_path.specs.Outcome.{given}
use Rattle.arz_cond.specs.Criteria.{criterion_at}
use Rattle.arz_cond.specs.Outcomes.{outcome}
use Rattle.arz_flow.specs.declared.answers.Ask.TheVariants.{Send}
use Rattle.arz_flow.specs.declared.answers.Answer.TheVariants.{Reply as Replied}
use Rattle.arz_relation.specs.declared.ends.End.TheVariants.{Completed, Broke, Out, TooDeep as EndTooDeep, Budget}
use Rattle.arz_flow.specs.declared.answers.Spot.{Spot}
use Rattle.arz_flow.specs.declared.bundle.Bundle.{Bundle}
use Rattle.arz_relation.specs.Documents.{step_id, index_of, criteria_of, actions_at, criteria_in, action_name}
use Rattle.arz_relation.specs.Play.{State, Seen, Stops, Play, Out as Lacks, Ends, Gives, TooDeep, after, turn, play}
use Rattle.arz_relation.specs.Requests.{inputs_of}
use Rattle.arz_relation.specs.Retries.{told_delay, once_more}
use Rattle.arz_scope.specs.Scopes.{Nothing, Exchange, found}
use Rattle.arz_relation.specs.Verdicts.{Patterned, is_success}
use Rattle.arz_relation.specs.Cases.{Runs, Enters, begun, spot, spoken_of, tried, result, act_case, script}
use Rattle.arz_relation.proofs.Standing.{give_same}
use Rattle.arz_relation.specs.Executions.{start, spot_of, end_of, end}
use Rattle.arz_relation.proofs.Executions.{end_whole}
use Rattle.arz_flow.proofs.Statuses.{holds_at}
use Rattle.arz_relation.proofs.Worked.{unspent, over, Sends_one, Has_steps, run_with, judges, ends_as, lacks, replies, closes, ends, acts_not, takes, passes}

module _ (told : Patterned) (b : Bundle) where
  -- ---- one step that calls an operation

  module _ (step : Json) (q : Request) (has : Has_steps b (step ∷ [])) (sends : Sends_one b step q) where
    -- no answer: its request is asked for
    pub one_out : 0 < b.max_attempts → end told b [] ≡ Some (Out (Send q))
    one_out lt = let s = turn (start []) in ends_as told b (step ∷ []) has [] 1 (Lacks (Send q) (turn s)) (Out (Send q)) (lacks told b (step ∷ []) has step q sends 0 0 [] [] s refl (unspent 0 b.max_attempts lt) refl) refl

    -- no request may be sent
    pub one_budget : b.max_attempts ≡ 0 → end told b [] ≡ Some (Budget 0)
    unfolding script
    one_budget none = end_whole told b [] 3 (Budget 0) (rw (has.alone, has.listed, sends.calls, sends.made (spoken_of b (run_with told b []) [] Nothing), none) refl)

    -- what the criteria of the step speak of
    abbrev here : Reply → Base → Option Json
    here y = spoken_of b (run_with told b []) [] (Exchange q y)

    module _ (y : Reply) (silent : (ok : Bool) → actions_at b b.workflow step ok ≡ []) (lt : 0 < b.max_attempts) where
      -- as the attempt, so the run
      judged : (ok : Bool) → judges told b step [] [] q y ≡ given ok → end told b (Replied y ∷ []) ≡ Some (over ok)
      judged ok is =
          let s = after (Send q) [] (turn (turn (start (Replied y ∷ [])))) in
          let t = tried b (run_with told b []) [] step (Exchange q y) ok in
          let replied = replies told b (step ∷ []) has step q sends 0 3 [] [] (turn (start (Replied y ∷ []))) refl (unspent 0 b.max_attempts lt) y ok [] refl is in
          let closed = closes told b (step ∷ []) has 0 1 ok t.run.facts s refl in
          ends_as told b (step ∷ []) has (Replied y ∷ []) 4 (Gives (result ok []) (turn (turn s))) (over ok) (replied ∙ acts_not told b step 0 3 [] t s (silent ok) ∙ closed) (ends told b 4 ok (turn (turn s)))

      -- a reply of another status than one of success to a step without criteria: the run is broken
      pub one_broke : criteria_of step ≡ [] → is_success y ≡ false → end told b (Replied y ∷ []) ≡ Some (Broke [])
      one_broke none bad = judged false (rw (none, bad) refl)

      -- a reply of such a status: it is completed
      pub one_completed : criteria_of step ≡ [] → is_success y ≡ true → end told b (Replied y ∷ []) ≡ Some (Completed [])
      one_completed none good = judged true (rw (none, good) refl)

      -- the first of two criteria doesn't hold: the run is broken, whatever the status is and whether the second holds
      pub one_unmet : (c d : Json) → criteria_of step ≡ c ∷ d ∷ [] → outcome told (here y) (criterion_at c) ≡ given false → end told b (Replied y ∷ []) ≡ Some (Broke [])
      one_unmet c d are bad = judged false (rw (are, bad) refl)

      -- a step that asks for the status 201 by a simple criterion: the run is broken at 200, and completed at 201
      abbrev Asks_for_201 : Type 0
      Asks_for_201 = (c : Json) × (criteria_of step ≡ c ∷ []) × ((criterion_at c).kind ≡ codes "simple") × ((criterion_at c).condition ≡ codes "$statusCode == 201")

      its_outcome : (asks : Asks_for_201) → outcome told (here y) (criterion_at asks.0) ≡ given (int_eq (pos y.status) (pos 201))
      unfolding found
      its_outcome asks = holds_at (here y) y.status refl told (criterion_at asks.0) asks.2 asks.3

      pub one_other_status : Asks_for_201 → y.status ≡ 200 → end told b (Replied y ∷ []) ≡ Some (Broke [])
      one_other_status asks is = judged false (rw (asks.1, its_outcome asks, is) refl)

      pub one_this_status : Asks_for_201 → y.status ≡ 201 → end told b (Replied y ∷ []) ≡ Some (Completed [])
      one_this_status asks is = judged true (rw (asks.1, its_outcome asks, is) refl)

    -- it is tried again once after a failure: where it fails again, the run is broken
    pub one_retried : (a : Json) (y z : Reply) → criteria_of step ≡ [] → actions_at b b.workflow step false ≡ a ∷ [] → act_of a ≡ act.Retry 0 1 first.Nothing → criteria_in a ≡ [] → is_success y ≡ false → told_delay y ≡ None → is_success z ≡ false → 1 < b.max_attempts →
        end told b (Replied y ∷ Replied z ∷ []) ≡ Some (Broke [])
    unfolding script
    one_retried a y z none are retries always bad now worse lt =
        let counts = once_more (action_name a) [] in
        let s = after (Send q) (Replied z ∷ []) (turn (turn (start (Replied y ∷ Replied z ∷ [])))) in
        let t = tried b (run_with told b []) [] step (Exchange q y) false in
        let s' = after (Send q) [] (turn (turn s)) in
        let t' = tried b t.run [] step (Exchange q z) false in
        let replied = replies told b (step ∷ []) has step q sends 0 6 [] [] (turn (start (Replied y ∷ Replied z ∷ []))) refl (unspent 0 b.max_attempts (omega (arith, lt))) y false (Replied z ∷ []) refl (rw (none, bad) refl) in
        let taken = takes told b step 0 6 [] t s a are (rw retries refl) always in
        let again : play (script told b) 6 (act_case b 0 (spot t.run step) [] t (action_name a) (act_of a)) s ≡ play (script told b) 5 (Enters t.run 0 counts) (turn s) = rw (retries, now) (give_same (play (script told b) 5) _) in
        let replied' = replies told b (step ∷ []) has step q sends 0 4 counts t.run.facts (turn s) refl (unspent 1 b.max_attempts lt) z false [] refl (rw (none, worse) refl) in
        let passed = passes told b step 0 4 counts t' s' a are (rw (retries, (bytes_eq-Decides (action_name a) (action_name a)).1 refl) refl) in
        let closed = closes told b (step ∷ []) has 0 2 false t'.run.facts s' refl in
        ends_as told b (step ∷ []) has (Replied y ∷ Replied z ∷ []) 7 (Gives (result false []) (turn (turn s'))) (over false) (replied ∙ taken ∙ again ∙ replied' ∙ passed ∙ closed) (ends told b 7 false (turn (turn s')))

  -- ---- `goto`

  -- an attempt of the first of three steps succeeds, and its action goes to the third: that is entered
  pub gone_to_third : (step other target a : Json) (q p : Request) (id : List ℕ) (y : Reply) → Has_steps b (step ∷ other ∷ target ∷ []) → Sends_one b step q → Sends_one b target p → criteria_of step ≡ [] → actions_at b b.workflow step true ≡ a ∷ [] → act_of a ≡ act.GoStep id → criteria_in a ≡ [] → index_of id (step ∷ other ∷ target ∷ []) ≡ 2 → is_success y ≡ true → 1 < b.max_attempts →
      end told b (Replied y ∷ []) ≡ Some (Out (Send p))
  unfolding script
  gone_to_third step other target a q p id y has sends then none are goes always place good lt =
      let steps = step ∷ other ∷ target ∷ [] in
      let s = after (Send q) [] (turn (turn (start (Replied y ∷ [])))) in
      let t = tried b (run_with told b []) [] step (Exchange q y) true in
      let replied = replies told b steps has step q sends 0 5 [] [] (turn (start (Replied y ∷ []))) refl (unspent 0 b.max_attempts (omega (arith, lt))) y true [] refl (rw (none, good) refl) in
      let taken = takes told b step 0 5 [] t s a are (rw goes refl) always in
      let gone : play (script told b) 5 (act_case b 0 (spot t.run step) [] t (action_name a) (act_of a)) s ≡ play (script told b) 4 (Enters t.run 2 []) (turn s) = rw (goes, has.listed, place) (give_same (play (script told b) 4) _) in
      let asked = lacks told b steps has target p then 2 3 [] t.run.facts (turn s) refl (unspent 1 b.max_attempts lt) refl in
      ends_as told b steps has (Replied y ∷ []) 6 (Lacks (Send p) (turn (turn s))) (Out (Send p)) (replied ∙ taken ∙ gone ∙ asked) refl

  -- ---- runs in runs

  -- a run that is entered while 32 are open
  pub too_deep : (w : List ℕ) (inputs : List Member) (at : Spot) (v : Seen) → script told b (Runs w inputs 33 at) v ≡ Stops (TooDeep at)
  unfolding script
  too_deep w inputs at v = refl

  -- a step that runs its own workflow
  module _ (step : Json) (inputs : List Member) (has : Has_steps b (step ∷ [])) (loops : call_of step ≡ call.Flow b.workflow) (made : (found : Base → Option Json) → inputs_of b found step ≡ Ok inputs) where
    abbrev its_spot : Spot
    its_spot = record { workflow = b.workflow; step = Some (step_id step) }

    abbrev Sinks : Play → Type 0
    Sinks p = (t : State) × (p ≡ Ends (TooDeep its_spot) t)

    -- where the run in it is too deep
    one_down : (n depth : ℕ) (outer : List Member) (at : Spot) (s : State) → (depth == 33) ≡ false → ((u : State) → Sinks (play (script told b) n (Runs b.workflow inputs (depth + 1) its_spot) u)) → Sinks (play (script told b) (suc (suc n)) (Runs b.workflow outer depth at) s)
    unfolding script
    one_down n depth outer at s few h =
        let inner = h (turn (turn s)) in
        rw (few, has.alone, has.listed, loops, made (spoken_of b (begun b.workflow outer depth) s.done Nothing)) (inner.0, rw inner.1 refl)

    abbrev turns_to : ℕ → ℕ
    turns_to zero = 1
    turns_to (suc levels) = suc (suc (turns_to levels))

    sinks : (levels depth : ℕ) (outer : List Member) (s : State) → depth + levels ≡ 33 → Sinks (play (script told b) (turns_to levels) (Runs b.workflow outer depth its_spot) s)
    unfolding script
    sinks zero depth outer s e = let same : depth ≡ 33 = omega (arith, e) in (turn s, rw same refl)
    sinks (suc levels) depth outer s e = one_down (turns_to levels) depth outer its_spot s (ne_eqb depth 33 (λ d. omega (arith, d, e))) (λ u. sinks levels (depth + 1) inputs u (omega (arith, e)))

    -- it ends at that step, before anything is asked
    pub one_in_itself : end told b [] ≡ Some (EndTooDeep its_spot)
    one_in_itself =
        let sunk = one_down (turns_to 31) 1 b.inputs (spot_of b.workflow) (start []) refl (λ u. sinks 31 2 inputs u refl) in
        end_whole told b [] (suc (suc (turns_to 31))) (EndTooDeep its_spot) (ap (end_of b.workflow) sunk.1)
