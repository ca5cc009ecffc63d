-- What holds of a script that looks at something first: it holds where that is seen.
use Rattle.std.proofs.Common.{◌≡◌, ◌≢◌, ℕ, ◌+◌, ◌==◌, if◌then◌else◌, Bool, true, false, List, Option, Some, None, refl}
use Rattle.std.specs.declared.result.Result.TheVariants.{Ok, Err}
use Rattle.std.proofs.lemmas.Bool.{eqb-true, eqb-false}
use Rattle.arz_json.specs.declared.Json.{Json}
use Rattle.arz_json.specs.declared.Member.{Member}
use Rattle.arz_world.specs.declared.Request.{Request}
use Rattle.arz_operation.specs.declared.types.Call.{Call}
use Rattle.arz_operation.specs.declared.types.Call.TheVariants as call
use Rattle.arz_description.specs.Calls.{call_of}
use Rattle.arz_path.specs.Outcome.{Outcome, given, wide, untold}
use Rattle.arz_request.specs.Causes.{Made}
use Rattle.arz_request.specs.declared.cause.Cause.{Cause}
use Rattle.arz_request.specs.declared.cause.Cause.TheVariants.{TooWide}
use Rattle.arz_scope.specs.Scopes.{Attempt, Nothing}
use Rattle.arz_flow.specs.declared.answers.Spot.{Spot}
use Rattle.arz_flow.specs.declared.bundle.Bundle.{Bundle}
use Rattle.arz_relation.specs.Documents.{workflow_named, criteria_of}
use Rattle.arz_relation.specs.Requests.{request_of, inputs_of}
use Rattle.arz_relation.specs.Verdicts.{Patterned, verdict}
use Rattle.arz_relation.specs.Play.{Result, Completed, Broke, NoStep, Untold, Stuck, Budget, Seen, sends_in, Script, Give, Stops, Sends, Plays, Records}
use Rattle.arz_relation.specs.Cases.{Run, Case, Runs, Tried, after_run, with_step, with_made, with_outcome, within_budget, spoken_of, spot, tried, judged, after_reply, after_inner, attempt_operation, attempt_by, attempt}

module _ (Holds : Script Case → Type 0) where
  pub by_test : (x : Bool) (c d : Script Case) → (x ≡ true → Holds c) → (x ≡ false → Holds d) → Holds (if x then c else d)
  by_test true c d h k = h refl
  by_test false c d h k = k refl

  pub by_step : (o : Option Json) (k : Json → Script Case) → (o ≡ None → Holds (Stops NoStep)) → ((step : Json) → o ≡ Some step → Holds (k step)) → Holds (with_step o k)
  by_step None k none h = none refl
  by_step (Some step) k none h = h step refl

  pub by_made : {A : Type 0} (x : Made A) (at : Spot) (k : A → Script Case) → ((cause : Cause) → Holds (Stops (Stuck cause at))) → ((y : A) → Holds (k y)) → Holds (with_made x at k)
  by_made (Ok y) at k stuck h = h y
  by_made (Err cause) at k stuck h = stuck cause

  pub by_outcome : {A : Type 0} (o : Outcome A) (at : Spot) (k : A → Script Case) → ((cause : Cause) → Holds (Stops (Stuck cause at))) → (o ≡ untold → Holds (Stops Untold)) → ((y : A) → o ≡ given y → Holds (k y)) → Holds (with_outcome o at k)
  by_outcome (given y) at k stuck none h = h y refl
  by_outcome wide at k stuck none h = stuck TooWide
  by_outcome untold at k stuck none h = none refl

  pub by_budget : (b : Bundle) (v : Seen) (c : Script Case) → (sends_in v.asked ≡ b.max_attempts → Holds (Stops (Budget b.max_attempts))) → (sends_in v.asked ≢ b.max_attempts → Holds c) → Holds (within_budget b v c)
  by_budget b v c spent h = by_test (sends_in v.asked == b.max_attempts) (Stops (Budget b.max_attempts)) c (λ e. spent (eqb-true (sends_in v.asked) b.max_attempts e)) (λ e. h (eqb-false (sends_in v.asked) b.max_attempts e))

  module _ (told : Patterned) (b : Bundle) (r : Run) (step : Json) where
    pub by_verdict : (own : Attempt) (plain : Bool) (k : Tried → Seen → Script Case) (v : Seen) → ((cause : Cause) → Holds (Stops (Stuck cause (spot r step)))) → (verdict told (spoken_of b r v.done own) plain (criteria_of step) ≡ untold → Holds (Stops Untold)) → ((ok : Bool) → Holds (k (tried b r v.done step own ok) v)) → Holds (judged told b r step own plain k v)
    by_verdict own plain k v stuck none h = by_outcome (verdict told (spoken_of b r v.done own) plain (criteria_of step)) (spot r step) (λ ok. k (tried b r v.done step own ok) v) stuck none (λ ok e. h ok)

    -- an attempt sends a request, or runs a workflow
    pub by_attempt : (v : Seen) (k : Tried → Seen → Script Case) → ((cause : Cause) → Holds (Stops (Stuck cause (spot r step)))) → (sends_in v.asked ≡ b.max_attempts → Holds (Stops (Budget b.max_attempts))) → ((q : Request) → sends_in v.asked ≢ b.max_attempts → Holds (Sends q (after_reply told b r step q k))) → ((w : List ℕ) (inputs : List Member) → call_of step ≡ call.Flow w → Holds (Plays (Runs w inputs (r.depth + 1) (spot r step)) (after_inner told b r step k))) → Holds (attempt told b r step v k)
    by_attempt v k stuck spent send run = by_call (call_of step) refl
      where
        operation : Holds (attempt_operation told b r step v k)
        operation =
            by_made (request_of b (spoken_of b r v.done Nothing) (workflow_named r.workflow b.arazzo) step) (spot r step) (λ q. within_budget b v (Sends q (after_reply told b r step q k))) stuck (λ q.
            by_budget b v (Sends q (after_reply told b r step q k)) spent (send q))

        by_call : (c : Call) → call_of step ≡ c → Holds (attempt_by c told b r step v k)
        by_call (call.Id source id) e = operation
        by_call (call.At source pointer) e = operation
        by_call (call.Flow w) e = by_made (inputs_of b (spoken_of b r v.done Nothing) step) (spot r step) (λ inputs. Plays (Runs w inputs (r.depth + 1) (spot r step)) (after_inner told b r step k)) stuck (λ inputs. run w inputs e)

  -- a run that is over
  pub by_result : (w : List ℕ) (inputs : List Member) (o : Result) (v : Seen) → ((outputs : List Member) → Holds (Records (record { workflow = w; inputs = inputs; outputs = outputs }) (Give (Completed outputs)))) → ((outputs : List Member) → Holds (Give (Broke outputs))) → Holds (after_run w inputs o v)
  by_result w inputs (Completed outputs) v completed broke = completed outputs
  by_result w inputs (Broke outputs) v completed broke = broke outputs
