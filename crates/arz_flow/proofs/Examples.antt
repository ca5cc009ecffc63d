-- Worked plays of a workflow of one step.
use Rattle.std.proofs.Common.{◌≡◌, ℕ, zero, suc, ◌<◌, ◌==◌, [], ◌∷◌, refl, sym, subst, Bool, true, false, Option, Some, codes, arith}
use Rattle.std.specs.Prelude.{pos}
use Rattle.std.specs.Ordering.{int_eq}
use Rattle.arz_json.specs.declared.Json.{Json}
use Rattle.arz_json.specs.declared.Json.TheVariants.{Object}
use Rattle.arz_json.specs.Tree.{has_opaque, opaque_step}
use Rattle.arz_json.proofs.Layers.{folded-Object}
use Rattle.std.proofs.Math.Dec.{eqb-zero-suc}
use Rattle.std.specs.declared.result.Result.TheVariants.{Ok}
use Rattle.arz_world.specs.declared.Reply.{Reply}
use Rattle.arz_world.specs.declared.Request.{Request}
use Rattle.arz_expr.specs.declared.syntax.Base.{Base}
use Rattle.arz_path.specs.Outcome.{Outcome, given}
use Rattle.arz_cond.specs.Criteria.{criterion_at}
use Rattle.arz_cond.specs.Outcomes.{outcome}
use Rattle.arz_flow.specs.declared.answers.Ask.TheVariants.{Send}
use Rattle.arz_flow.specs.declared.answers.Answer.TheVariants.{Reply as Replied}
use Rattle.arz_flow.specs.declared.answers.End.{End}
use Rattle.arz_flow.specs.declared.answers.End.TheVariants.{Completed, Broke, Out, Budget}
use Rattle.arz_flow.specs.declared.bundle.Bundle.{Bundle}
use Rattle.arz_flow.specs.Documents.{members_at, steps_of, workflow_named, criteria_of}
use Rattle.arz_flow.specs.Play.{Play, Plays, seen, then_play, after, turn, follow, play}
use Rattle.arz_flow.specs.Requests.{request_of}
use Rattle.arz_scope.specs.Scopes.{Nothing, Exchange, found}
use Rattle.arz_flow.specs.Verdicts.{Patterned, is_success, verdict}
use Rattle.arz_flow.specs.Cases.{Goes_on, give, after_run, begun, surroundings, spot, fact_of, with_fact, with_verdict, script}
use Rattle.arz_flow.specs.Executions.{start, end_of, end}
use Rattle.arz_flow.proofs.Executions.{end_whole}
use Rattle.arz_flow.proofs.Statuses.{holds_at}

-- where a request may be sent, none that was sent is as many
unspent : (n : ℕ) → 0 < n → (0 == n) ≡ false
unspent zero lt = absurd (omega (arith, lt))
unspent (suc n) lt = eqb-zero-suc n

-- no outputs hold no Opaque
empty_is_plain : has_opaque (Object []) ≡ false
empty_is_plain = folded-Object Bool opaque_step []

module _ (told : Patterned) where
  -- no answer: its request is asked for
  pub one_out : (b : Bundle) (step : Json) (q : Request) → steps_of b b.workflow ≡ step ∷ [] → request_of b (found (surroundings b (begun b.workflow b.inputs) []) Nothing) (workflow_named b.workflow b.arazzo) step ≡ Ok q → 0 < b.max_attempts → end told b [] ≡ Some (Out (Send q))
  unfolding script
  one_out b step q e f lt = let more = unspent b.max_attempts lt in rw (e, f, more) (refl {a = Some (Out (Send q))})

  -- no request may be sent
  pub one_budget : (b : Bundle) (step : Json) (q : Request) → steps_of b b.workflow ≡ step ∷ [] → request_of b (found (surroundings b (begun b.workflow b.inputs) []) Nothing) (workflow_named b.workflow b.arazzo) step ≡ Ok q → b.max_attempts ≡ 0 → end told b [] ≡ Some (Budget 0)
  unfolding script
  one_budget b step q e f none = rw (e, f, none) refl

  module _ (b : Bundle) (step w : Json) (q : Request) (y : Reply) where
    -- what the criteria of the step speak of
    abbrev here : Base → Option Json
    here = found (surroundings b (begun b.workflow b.inputs) []) (Exchange q y)

    -- what follows the verdict
    abbrev judged : Outcome Bool → Play
    judged o =
        then_play (follow (play (script told b) 3) (with_verdict o (spot (begun b.workflow b.inputs) step) (λ ok. Plays (Goes_on (with_fact (begun b.workflow b.inputs) (fact_of b (begun b.workflow b.inputs) [] step q y)) 0 ok) give)) (after (Send q) [] (turn (turn (start (Replied y ∷ []))))))
        (λ o t. follow (play (script told b) 4) (after_run b.workflow b.inputs o (seen t)) t)

    module _ (one : steps_of b b.workflow ≡ step ∷ []) (flow : workflow_named b.workflow b.arazzo ≡ Some w) (plain : members_at (codes "outputs") w ≡ []) (made : request_of b (found (surroundings b (begun b.workflow b.inputs) []) Nothing) (workflow_named b.workflow b.arazzo) step ≡ Ok q) (lt : 0 < b.max_attempts) where
      ends_as : (e : End) (o : Outcome Bool) → verdict told here y (criteria_of step) ≡ o → end_of b.workflow (judged o) ≡ Some e → end told b (Replied y ∷ []) ≡ Some e
      unfolding script
      ends_as e o is h =
          let more = unspent b.max_attempts lt in
          end_whole told b (Replied y ∷ []) 5 e (rw (one, made, more) (subst (λ v. end_of b.workflow (judged v) ≡ Some e) (sym is) h))

      -- where the attempt failed, the run is broken
      failed : verdict told here y (criteria_of step) ≡ given false → end told b (Replied y ∷ []) ≡ Some (Broke [])
      unfolding script
      failed bad = ends_as (Broke []) (given false) bad (rw (flow, plain) (rw empty_is_plain refl))

      -- where it succeeded, the run is completed
      succeeded : verdict told here y (criteria_of step) ≡ given true → end told b (Replied y ∷ []) ≡ Some (Completed [])
      unfolding script
      succeeded good = ends_as (Completed []) (given true) good (rw (one, flow, plain) (rw empty_is_plain refl))

      -- a reply of another status than one of success to a step without criteria: the run is broken
      pub one_broke : criteria_of step ≡ [] → is_success y ≡ false → end told b (Replied y ∷ []) ≡ Some (Broke [])
      one_broke none bad = failed (rw (none, bad) refl)

      -- a reply of such a status: it is completed
      pub one_completed : criteria_of step ≡ [] → is_success y ≡ true → end told b (Replied y ∷ []) ≡ Some (Completed [])
      one_completed none good = succeeded (rw (none, good) refl)

      -- the first of two criteria doesn't hold: the run is broken, whatever the status is and whether the second holds
      pub one_unmet : (c d : Json) → criteria_of step ≡ c ∷ d ∷ [] → outcome told here (criterion_at c) ≡ given false → end told b (Replied y ∷ []) ≡ Some (Broke [])
      one_unmet c d are bad = failed (rw (are, bad) refl)

      -- both hold: it is completed, whatever the status is
      pub one_met : (c d : Json) → criteria_of step ≡ c ∷ d ∷ [] → outcome told here (criterion_at c) ≡ given true → outcome told here (criterion_at d) ≡ given true → end told b (Replied y ∷ []) ≡ Some (Completed [])
      one_met c d are good also = succeeded (rw (are, good, also) refl)

      -- a step that asks for the status 201 by a simple criterion: the run is broken at 200, and completed at 201
      abbrev Asks_for_201 : Type 0
      Asks_for_201 = (c : Json) × (criteria_of step ≡ c ∷ []) × ((criterion_at c).kind ≡ codes "simple") × ((criterion_at c).condition ≡ codes "$statusCode == 201")

      its_outcome : (asks : Asks_for_201) → outcome told here (criterion_at asks.0) ≡ given (int_eq (pos y.status) (pos 201))
      unfolding found
      its_outcome asks = holds_at here y.status refl told (criterion_at asks.0) asks.2 asks.3

      pub one_other_status : Asks_for_201 → y.status ≡ 200 → end told b (Replied y ∷ []) ≡ Some (Broke [])
      one_other_status asks is = failed (rw (asks.1, its_outcome asks, is) refl)

      pub one_this_status : Asks_for_201 → y.status ≡ 201 → end told b (Replied y ∷ []) ≡ Some (Completed [])
      one_this_status asks is = succeeded (rw (asks.1, its_outcome asks, is) refl)
