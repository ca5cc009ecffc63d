-- The fuel that each case takes.
use Rattle.std.proofs.Common.{◌≡◌, ℕ, suc, ◌+◌, ◌-◌, ◌*◌, ◌<◌, ◌≤◌, ◌==◌, if◌then◌else◌, List, Bool, true, false, Option, Some, None, refl, arith}
use Rattle.std.specs.Prelude.{slice_get}
use Rattle.arz_json.specs.declared.Json.{Json}
use Rattle.arz_json.specs.declared.Member.{Member}
use Rattle.arz_flow.specs.declared.bundle.Bundle.{Bundle}
use Rattle.arz_flow.specs.Documents.{steps_of, workflow_named}
use Rattle.std.specs.declared.result.Result.TheVariants.{Ok, Err}
use Rattle.arz_world.specs.declared.Reply.{Reply}
use Rattle.arz_world.specs.declared.Request.{Request}
use Rattle.arz_flow.specs.declared.answers.Spot.{Spot}
use Rattle.arz_path.specs.Outcome.{Outcome, given, wide, untold}
use Rattle.arz_request.specs.Causes.{Made}
use Rattle.arz_flow.specs.Play.{Result, Completed, Broke, Budget, Seen, sends_in, Script, Stops, Plays, Sends}
use Rattle.arz_flow.specs.Requests.{request_of}
use Rattle.arz_scope.specs.Scopes.{Nothing, found}
use Rattle.arz_flow.specs.Cases.{Run, Case, Runs, Enters, Goes_on, Closes, give, after_run, with_step, with_request, within_budget, with_verdict, verdict_of, spot, surroundings, fact_of, with_fact, after_reply, attempt, next_step, script}
use Rattle.arz_flow.specs.Verdicts.{Patterned}
use Rattle.arz_flow.proofs.Bounded.{Bounded}

fewer : (x y k : ℕ) → x < y → x * k + k ≤ y * k
fewer x y k lt = let e : y ≡ x + 1 + (y - (x + 1)) = omega arith in rw e (omega arith)

-- each case is met
abbrev pub Fine : Case → Type 0
Fine g = Unit {0}

-- the turns up to the next ask, or to the result
abbrev pub local : Case → ℕ
local (Runs w inputs) = 2
local (Enters r i) = 1
local (Goes_on r i ok) = 2
local (Closes r ok) = 1

-- the answers that a case takes at least
abbrev pub owes : Case → ℕ
owes (Runs w inputs) = 1
owes (Enters r i) = 1
owes (Goes_on r i ok) = 0
owes (Closes r ok) = 0

-- the turns since the last ask where a case gives its result
abbrev pub outs : Case → ℕ → ℕ
outs (Runs w inputs) t = 2
outs (Enters r i) t = 2
outs (Goes_on r i ok) t = t + 2
outs (Closes r ok) t = t + 1

module _ (told : Patterned) (b : Bundle) (K : ℕ) (big : 8 ≤ K) where
  abbrev Bd : ℕ → Script Case → ℕ → ℕ → ℕ → ℕ → Type 0
  Bd n c a owed t up = Bounded K local owes outs Fine n c a owed t up

  step_bd : (x : Option Json) (n a owed t up : ℕ) (k : Json → Script Case) → t ≤ K → ((y : Json) → Bd n (k y) a owed t up) → Bd n (with_step x k) a owed t up
  step_bd None n a owed t up k le h = le
  step_bd (Some y) n a owed t up k le h = h y

  -- another case, whose result is the result
  tail : (n a owed t up : ℕ) (g : Case) → a * K + local g ≤ n → t + local g ≤ K → owed ≤ owes g → outs g t ≤ up → Bd n (Plays g give) a owed t up
  tail n a owed t up g le gap o u = (tt, le, gap, λ r v a' t' e f. (omega (arith, o), omega (arith, u, f)))

  ends_bd : (n a t : ℕ) (w : List ℕ) (inputs : List Member) (o : Result) (v : Seen) → t ≤ 2 → Bd n (after_run w inputs o v) a 0 t 2
  ends_bd n a t w inputs (Completed outputs) v le = (refl, le)
  ends_bd n a t w inputs (Broke outputs) v le = (refl, le)

  next_bd : (n a t : ℕ) (r : Run) (i : ℕ) (o : Option Json) → a * K + 1 ≤ n → t + 2 ≤ K → Bd n (Plays (next_step r i o) give) a 0 (t + 1) (t + 2)
  next_bd n a t r i None le gap = tail n a 0 (t + 1) (t + 2) (Closes r true) le (omega (arith, gap)) (omega arith) (omega arith)
  next_bd n a t r i (Some step) le gap = tail n a 0 (t + 1) (t + 2) (Enters r i) le (omega (arith, gap)) (omega arith) (omega arith)

  request_bd : (o : Made Request) (at : Spot) (n a owed t up : ℕ) (k : Request → Script Case) → t ≤ K → ((q : Request) → Bd n (k q) a owed t up) → Bd n (with_request o at k) a owed t up
  request_bd (Ok q) at n a owed t up k le h = h q
  request_bd (Err cause) at n a owed t up k le h = le

  budget_bd : (v : Seen) (n a owed t up : ℕ) (c : Script Case) → t ≤ K → Bd n c a owed t up → Bd n (within_budget b v c) a owed t up
  budget_bd v n a owed t up c le h = by_test (sends_in v.asked == b.max_attempts)
    where
      by_test : (spent : Bool) → Bd n (if spent then Stops (Budget b.max_attempts) else c) a owed t up
      by_test true = le
      by_test false = h

  verdict_bd : (o : Outcome Bool) (at : Spot) (n a owed t up : ℕ) (k : Bool → Script Case) → t ≤ K → ((ok : Bool) → Bd n (k ok) a owed t up) → Bd n (with_verdict o at k) a owed t up
  verdict_bd (given ok) at n a owed t up k le h = h ok
  verdict_bd wide at n a owed t up k le h = le
  verdict_bd untold at n a owed t up k le h = le

  reply_bd : (n a : ℕ) (r : Run) (i : ℕ) (step : Json) (q : Request) (y : Reply) (v : Seen) → a * K + 2 ≤ n → Bd n (after_reply told b r i step q y v) a 0 0 2
  reply_bd n a r i step q y v le =
      verdict_bd (verdict_of told b r v.done step q y) (spot r step) n a 0 0 2 (λ ok. Plays (Goes_on (with_fact r (fact_of b r v.done step q y)) i ok) give) (omega arith) (λ ok.
      tail n a 0 0 2 (Goes_on (with_fact r (fact_of b r v.done step q y)) i ok) le (omega (arith, big)) (omega arith) (omega arith))

  -- after a reply an answer fewer is left
  attempt_bd : (n a t : ℕ) (r : Run) (i : ℕ) (v : Seen) (step : Json) → a * K ≤ n → t ≤ K → Bd n (attempt told b r i v step) a 1 t 2
  attempt_bd n a t r i v step le gap =
      request_bd (request_of b (found (surroundings b r v.done) Nothing) (workflow_named r.workflow b.arazzo) step) (spot r step) n a 1 t 2 (λ q. within_budget b v (Sends q (after_reply told b r i step q))) gap (λ q.
      budget_bd v n a 1 t 2 (Sends q (after_reply told b r i step q)) gap
      (gap, λ y w a' lt. reply_bd n a' r i step q y w (omega (arith, le, fewer a' a K lt, big))))

  -- each case
  pub script_bounded : (g : Case) (v : Seen) (n a t : ℕ) → Fine g → a * K + local g ≤ suc n → t + local g ≤ K → Bd n (script told b g v) a (owes g) (t + 1) (outs g t)
  unfolding script
  script_bounded (Runs w inputs) v n a t fine le gap =
      (tt, omega (arith, le), omega (arith, gap), λ o u a' t' e f. ends_bd n a' t' w inputs o u f)
  script_bounded (Enters r i) v n a t fine le gap =
      step_bd (slice_get (steps_of b r.workflow) i) n a 1 (t + 1) 2 (attempt told b r i v) (omega (arith, gap)) (λ step.
      attempt_bd n a (t + 1) r i v step (omega (arith, le)) (omega (arith, gap)))
  script_bounded (Goes_on r i true) v n a t fine le gap =
      next_bd n a t r (i + 1) (slice_get (steps_of b r.workflow) (i + 1)) (omega (arith, le)) (omega (arith, gap))
  script_bounded (Goes_on r i false) v n a t fine le gap = tail n a 0 (t + 1) (t + 2) (Closes r false) (omega (arith, le)) (omega (arith, gap)) (omega arith) (omega arith)
  script_bounded (Closes r ok) v n a t fine le gap = (refl, omega arith)

pub local_pos : (g : Case) → 0 < local g
local_pos (Runs w inputs) = omega arith
local_pos (Enters r i) = omega arith
local_pos (Goes_on r i ok) = omega arith
local_pos (Closes r ok) = omega arith
