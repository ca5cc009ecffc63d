-- How a play ends everything: only as its cases may. Where its steps are there, it never ends for want of a step.
use Rattle.std.proofs.Common.{◌≡◌, ℕ, zero, suc, ◌+◌, ◌<◌, ◌==◌, if◌then◌else◌, Bool, true, false, List, [], ◌∷◌, ◌++◌, length, Option, Some, None, refl, arith}
use Rattle.std.specs.Prelude.{slice_get}
use Rattle.std.specs.declared.result.Result.TheVariants.{Ok, Err}
use Rattle.arz_json.specs.declared.Json.{Json}
use Rattle.arz_json.specs.declared.Member.{Member}
use Rattle.arz_world.specs.declared.Reply.{Reply}
use Rattle.arz_world.specs.declared.Request.{Request}
use Rattle.arz_flow.specs.declared.answers.Answer.{Answer}
use Rattle.arz_flow.specs.declared.answers.Answer.TheVariants.{Reply as Replied, Served}
use Rattle.arz_flow.specs.declared.answers.End.{End}
use Rattle.arz_flow.specs.declared.answers.Spot.{Spot}
use Rattle.arz_flow.specs.declared.bundle.Bundle.{Bundle}
use Rattle.arz_path.specs.Outcome.{Outcome, given, wide, untold}
use Rattle.arz_flow.specs.Documents.{steps_of, workflow_named}
use Rattle.arz_request.specs.declared.cause.Cause.{Cause}
use Rattle.arz_request.specs.Causes.{Made}
use Rattle.arz_flow.specs.Requests.{request_of}
use Rattle.arz_scope.specs.Scopes.{Nothing, found}
use Rattle.arz_flow.specs.Play.{Result, Completed, Broke, Halt, NoStep, Untold, Stuck, Budget, Seen, sends_in, State, seen, Play, Spent, Lost, Out, Ends, Gives, Script, Give, Stops, Sends, Waits, Plays, Records, then_play, take_reply, take_served, turn, follow, play}
use Rattle.arz_flow.specs.Cases.{Run, Case, Runs, Enters, Goes_on, Closes, give, after_run, with_step, with_request, within_budget, with_verdict, verdict_of, spot, surroundings, fact_of, with_fact, after_reply, attempt, next_step, script}
use Rattle.arz_flow.specs.Executions.{TookAll, whole, start, fuel, end_of, is_told}
use Rattle.arz_flow.specs.Verdicts.{Patterned}
use Rattle.arz_flow.specs.Laws.{HasEnd}

module _ (May : Halt → Type 0) where
  -- the play ends everything only as it may
  abbrev pub Allowed : Play → Type 0
  Allowed Spent = Unit {0}
  Allowed Lost = Unit {0}
  Allowed (Out q s) = Unit {0}
  Allowed (Ends h s) = May h
  Allowed (Gives r s) = Unit {0}

  then_allowed : (p : Play) (f : Result → State → Play) → Allowed p → ((r : Result) (s : State) → Allowed (f r s)) → Allowed (then_play p f)
  then_allowed Spent f g h = tt
  then_allowed Lost f g h = tt
  then_allowed (Out q s) f g h = tt
  then_allowed (Ends c s) f g h = g
  then_allowed (Gives r s) f g h = h r s

  reply_allowed : (q : Request) (left : List Answer) (s : State) (f : Reply → State → Play) → ((y : Reply) (t : State) → Allowed (f y t)) → Allowed (take_reply q left s f)
  reply_allowed q [] s f h = tt
  reply_allowed q (Replied y ∷ left) s f h = h y _
  reply_allowed q (Served ∷ left) s f h = tt

  served_allowed : (n : ℕ) (left : List Answer) (s : State) (f : State → Play) → ((t : State) → Allowed (f t)) → Allowed (take_served n left s f)
  served_allowed n [] s f h = tt
  served_allowed n (Replied y ∷ left) s f h = tt
  served_allowed n (Served ∷ left) s f h = h _

  module _ {Goal : Type 0} (Fine : Goal → Type 0) where
    -- the script stops only as it may, if its cases do
    abbrev pub Steady : Script Goal → Type 0
    Steady (Give r) = Unit {0}
    Steady (Stops c) = May c
    Steady (Sends q k) = (y : Reply) (v : Seen) → Steady (k y v)
    Steady (Waits n k) = (v : Seen) → Steady (k v)
    Steady (Plays g k) = Fine g × ((r : Result) (v : Seen) → Steady (k r v))
    Steady (Records c k) = Steady k

    follow_allowed : (f : Goal → State → Play) → ((g : Goal) (s : State) → Fine g → Allowed (f g s)) → (c : Script Goal) (s : State) → Steady c → Allowed (follow f c s)
    follow_allowed f h (Give r) s st = tt
    follow_allowed f h (Stops c) s st = st
    follow_allowed f h (Sends q k) s st = reply_allowed q s.left s _ (λ y t. follow_allowed f h (k y (seen t)) t (st y (seen t)))
    follow_allowed f h (Waits n k) s st = served_allowed n s.left s _ (λ t. follow_allowed f h (k (seen t)) t (st (seen t)))
    follow_allowed f h (Plays g k) s st = then_allowed (f g s) _ (h g s st.0) (λ r t. follow_allowed f h (k r (seen t)) t (st.1 r (seen t)))
    follow_allowed f h (Records c k) s st = follow_allowed f h k (record s { done = s.done ++ c ∷ [] }) st

    pub play_allowed : (cases : Goal → Seen → Script Goal) → ((g : Goal) (v : Seen) → Fine g → Steady (cases g v)) → (n : ℕ) (g : Goal) (s : State) → Fine g → Allowed (play cases n g s)
    play_allowed cases h zero g s fine = tt
    play_allowed cases h (suc n) g s fine = follow_allowed (play cases n) (play_allowed cases h n) (cases g (seen s)) (turn s) (h g (seen s) fine)

module _ (May : Halt → Type 0) (Fine : Case → Type 0) where
  abbrev Goes : Script Case → Type 0
  Goes c = Steady May Fine c

  pub request_steady : ((cause : Cause) (at : Spot) → May (Stuck cause at)) → (o : Made Request) (at : Spot) (k : Request → Script Case) → ((q : Request) → Goes (k q)) → Goes (with_request o at k)
  request_steady stuck (Ok q) at k h = h q
  request_steady stuck (Err cause) at k h = stuck cause at

  pub budget_steady : (b : Bundle) (v : Seen) (c : Script Case) → May (Budget b.max_attempts) → Goes c → Goes (within_budget b v c)
  budget_steady b v c spent h = by_test (sends_in v.asked == b.max_attempts)
    where
      by_test : (none : Bool) → Goes (if none then Stops (Budget b.max_attempts) else c)
      by_test true = spent
      by_test false = h

  pub ends_steady : (w : List ℕ) (inputs : List Member) (o : Result) (v : Seen) → Goes (after_run w inputs o v)
  ends_steady w inputs (Completed outputs) v = tt
  ends_steady w inputs (Broke outputs) v = tt

-- not for want of a step
abbrev Found : Halt → Type 0
Found NoStep = ⊥
Found Untold = Unit {0}
Found (Stuck cause at) = Unit {0}
Found (Budget limit) = Unit {0}

module _ (told : Patterned) (b : Bundle) where
  -- the step of each case that enters one is there
  abbrev HasStep : Case → Type 0
  HasStep (Runs w inputs) = (step : Json) × (slice_get (steps_of b w) 0 ≡ Some step)
  HasStep (Enters r i) = (step : Json) × (slice_get (steps_of b r.workflow) i ≡ Some step)
  HasStep (Goes_on r i ok) = Unit {0}
  HasStep (Closes r ok) = Unit {0}

  abbrev Finds : Script Case → Type 0
  Finds c = Steady Found HasStep c

  step_steady : (x : Option Json) (step : Json) (k : Json → Script Case) → x ≡ Some step → ((y : Json) → Finds (k y)) → Finds (with_step x k)
  step_steady None step k e h = absurd cc
  step_steady (Some y) step k e h = h y

  verdict_steady : (o : Outcome Bool) (at : Spot) (k : Bool → Script Case) → ((ok : Bool) → Finds (k ok)) → Finds (with_verdict o at k)
  verdict_steady (given ok) at k h = h ok
  verdict_steady wide at k h = tt
  verdict_steady untold at k h = tt

  next_steady : (r : Run) (i : ℕ) (o : Option Json) → slice_get (steps_of b r.workflow) i ≡ o → Finds (Plays (next_step r i o) give)
  next_steady r i None e = (tt, λ o v. tt)
  next_steady r i (Some step) e = ((step, e), λ o v. tt)

  script_steady : (g : Case) (v : Seen) → HasStep g → Finds (script told b g v)
  unfolding script
  script_steady (Runs w inputs) v there = (there, λ o u. ends_steady Found HasStep w inputs o u)
  script_steady (Enters r i) v there =
      step_steady (slice_get (steps_of b r.workflow) i) there.0 (attempt told b r i v) there.1 (λ step.
      request_steady Found HasStep (λ cause at. tt) (request_of b (found (surroundings b r v.done) Nothing) (workflow_named r.workflow b.arazzo) step) (spot r step) (λ q. within_budget b v (Sends q (after_reply told b r i step q))) (λ q.
      budget_steady Found HasStep b v (Sends q (after_reply told b r i step q)) tt (λ y u.
      verdict_steady (verdict_of told b r u.done step q y) (spot r step) (λ ok. Plays (Goes_on (with_fact r (fact_of b r u.done step q y)) i ok) give) (λ ok. (tt, λ o w. tt)))))
  script_steady (Goes_on r i true) v there = next_steady r (i + 1) (slice_get (steps_of b r.workflow) (i + 1)) refl
  script_steady (Goes_on r i false) v there = (tt, λ o u. tt)
  script_steady (Closes r ok) v there = tt

first_there : (xs : List Json) → 0 < length xs → (x : Json) × (slice_get xs 0 ≡ Some x)
first_there [] some = absurd (omega (arith, some))
first_there (x ∷ xs) some = (x, refl)

ended : (w : List ℕ) (p : Play) → Allowed Found p → TookAll p → is_told p ≡ true → (e : End) × (end_of w p ≡ Some e)
ended w Spent f t is = absurd t
ended w Lost f t is = absurd t
ended w (Out q s) f t is = (_, refl)
ended w (Ends NoStep s) f t is = absurd f
ended w (Ends Untold s) f t is = absurd cc
ended w (Ends (Stuck cause at) s) f t is = (_, refl)
ended w (Ends (Budget limit) s) f t is = (_, refl)
ended w (Gives o s) f t is = (_, refl)

-- over answers that fit, a valid bundle has an end, where all that it needs of patterns is told
pub has_end : (told : Patterned) → HasEnd told
has_end told b r valid fit is =
    ended b.workflow (whole told b r)
    (play_allowed Found (HasStep told b) (script told b) (script_steady told b) (fuel (length r)) (Runs b.workflow b.inputs) (start r) (first_there (steps_of b b.workflow) valid.some))
    fit is
