-- The fuel that each case takes.
use Rattle.std.proofs.Common.{◌≡◌, ℕ, suc, ◌+◌, ◌-◌, ◌*◌, ◌<◌, ◌≤◌, ◌==◌, ◌||◌, max, if◌then◌else◌, List, [], ◌∷◌, length, Bool, true, false, Option, Some, None, refl, arith}
use Rattle.std.specs.Prelude.{find, slice_get}
use Rattle.std.proofs.lemmas.Bool.{eqb-false}
use Rattle.arz_json.specs.declared.Json.{Json}
use Rattle.arz_json.specs.declared.Member.{Member}
use Rattle.arz_flow.specs.declared.bundle.Bundle.{Bundle}
use Rattle.arz_relation.specs.declared.retries.Count.{Count}
use Rattle.arz_relation.specs.Documents.{workflows_in, workflow_named, is_workflow, steps_of, index_of, depends_of, depends_in, depends_under, longest, criteria_of, actions_at, action_name}
use Rattle.std.specs.declared.result.Result.TheVariants.{Ok, Err}
use Rattle.arz_world.specs.declared.Request.{Request}
use Rattle.arz_operation.specs.declared.types.Call.{Call}
use Rattle.arz_operation.specs.declared.types.Call.TheVariants as call
use Rattle.arz_description.specs.Calls.{call_of}
use Rattle.arz_description.specs.Parts.{act_of}
use Rattle.arz_description.specs.declared.parts.Act.{Act}
use Rattle.arz_description.specs.declared.parts.Act.TheVariants as act
use Rattle.arz_description.specs.declared.parts.First.{First}
use Rattle.arz_description.specs.declared.parts.First.TheVariants as first
use Rattle.arz_flow.specs.declared.answers.Spot.{Spot}
use Rattle.arz_path.specs.Outcome.{Outcome, given, wide, untold}
use Rattle.arz_request.specs.Causes.{Made}
use Rattle.arz_relation.specs.Play.{Result, Completed, Broke, TooDeep, Budget, Seen, sends_in, Script, Stops, Plays, Sends, Waits}
use Rattle.arz_relation.specs.Requests.{request_of, inputs_of}
use Rattle.arz_relation.specs.Retries.{once_more, delay_after}
use Rattle.arz_relation.specs.Verdicts.{Patterned, verdict, is_success}
use Rattle.arz_scope.specs.Scopes.{Attempt, Nothing, Exchange, Inner}
use Rattle.arz_relation.specs.Cases.{Run, Case, Runs, Depends, Enters, Goes_on, Ends_run, Goes_to, Goes_over, Retries, Closes, give, begun, deepest, spot, spot_before, spoken_of, with_step, with_made, with_outcome, within_budget, Tried, tried, judged, after_reply, attempt_operation, attempt_workflow, attempt_by, attempt, after_inner, outputs_in, is_completed, choice, act_case, chosen_case, acts, enters_again, tries_again, after_run, depend, after_dependency, is_recorded, next_step, script}
use Rattle.arz_relation.proofs.Bounded.{Bounded}

-- what the runs at a depth and below it need
pub reach : (d depth : ℕ) → ℕ
reach d depth = (33 - depth) * (d + 4)

pub reach_next : (d depth : ℕ) → depth ≤ 32 → reach d depth ≡ reach d (depth + 1) + (d + 4)
unfolding reach
reach_next d depth le =
    let e : 33 - depth ≡ (33 - (depth + 1)) + 1 = omega arith in
    rw e (omega arith)

pub reach_all : (d depth : ℕ) → reach d depth ≤ 33 * (d + 4)
unfolding reach
reach_all d depth = le_mul (33 - depth) 33 (d + 4) (omega arith)
  where
    le_mul : (x y k : ℕ) → x ≤ y → x * k ≤ y * k
    le_mul x y k le = let e : y ≡ x + (y - x) = omega arith in rw e (omega arith)

fewer : (x y k : ℕ) → x < y → x * k + k ≤ y * k
fewer x y k lt = let e : y ≡ x + 1 + (y - (x + 1)) = omega arith in rw e (omega arith)

no_more : (x y k : ℕ) → x ≤ y → x * k ≤ y * k
no_more x y k le = let e : y ≡ x + (y - x) = omega arith in rw e (omega arith)

-- no workflow has more dependencies than the one with the most
depends_le : (id : List ℕ) (ws : List Json) → length (depends_in (find (is_workflow id) ws)) ≤ longest ws
depends_le id [] = omega arith
depends_le id (w ∷ ws) = by_test (is_workflow id w) (depends_le id ws)
  where
    by_test : (same : Bool) → length (depends_in (find (is_workflow id) ws)) ≤ longest ws → length (depends_in (if same then Some w else find (is_workflow id) ws)) ≤ max (length (depends_under w)) (longest ws)
    by_test true h = omega arith
    by_test false h = omega (arith, h)

-- at most 32 runs are open; `d` is the most dependencies of a workflow
abbrev pub Fine : ℕ → Case → Type 0
Fine d (Runs w inputs depth at) = depth ≤ 33
Fine d (Depends r w ws) = (r.depth ≤ 32) × (length ws + 1 ≤ d)
Fine d (Enters r i counts) = r.depth ≤ 32
Fine d (Goes_on r i ok) = r.depth ≤ 32
Fine d (Ends_run r ok) = r.depth ≤ 32
Fine d (Goes_to r i) = r.depth ≤ 32
Fine d (Goes_over r w at) = r.depth ≤ 32
Fine d (Retries r i at counts seconds before) = r.depth ≤ 32
Fine d (Closes r ok) = r.depth ≤ 32

-- the turns up to the next ask, or to the result
abbrev pub local : ℕ → Case → ℕ
local d (Runs w inputs depth at) = reach d depth + 1
local d (Depends r w ws) = reach d (r.depth + 1) + 3 + length ws
local d (Enters r i counts) = reach d (r.depth + 1) + 2
local d (Goes_on r i ok) = reach d (r.depth + 1) + 3
local d (Ends_run r ok) = 2
local d (Goes_to r i) = reach d (r.depth + 1) + 3
local d (Goes_over r w at) = reach d (r.depth + 1) + 2
local d (Retries r i at counts seconds before) = reach d (r.depth + 1) + 3
local d (Closes r ok) = 1

-- the answers that a case takes at least
abbrev pub owes : Case → ℕ
owes (Runs w inputs depth at) = 1
owes (Depends r w ws) = 1
owes (Enters r i counts) = 1
owes (Goes_on r i ok) = 0
owes (Ends_run r ok) = 0
owes (Goes_to r i) = 1
owes (Goes_over r w at) = 1
owes (Retries r i at counts seconds before) = 1
owes (Closes r ok) = 0

-- the turns since the last ask where a run at this depth gives its result
abbrev pub rise : ℕ → ℕ
rise depth = 2 * (33 - depth)

-- those where a case gives its result
abbrev pub outs : Case → ℕ → ℕ
outs (Runs w inputs depth at) t = rise depth
outs (Depends r w ws) t = rise r.depth
outs (Enters r i counts) t = rise r.depth
outs (Goes_on r i ok) t = max (t + 2) (rise r.depth)
outs (Ends_run r ok) t = t + 2
outs (Goes_to r i) t = rise r.depth
outs (Goes_over r w at) t = rise r.depth
outs (Retries r i at counts seconds before) t = rise r.depth
outs (Closes r ok) t = t + 1

module _ (told : Patterned) (b : Bundle) (d K : ℕ) (big : 33 * (d + 4) + 70 ≤ K) where
  abbrev Bd : ℕ → Script Case → ℕ → ℕ → ℕ → ℕ → Type 0
  Bd n c a owed t up = Bounded K (local d) owes outs (Fine d) n c a owed t up

  if_bd : (x : Bool) (n a owed t up : ℕ) (c e : Script Case) → Bd n c a owed t up → (x ≡ false → Bd n e a owed t up) → Bd n (if x then c else e) a owed t up
  if_bd true n a owed t up c e h k = h
  if_bd false n a owed t up c e h k = k refl

  step_bd : (x : Option Json) (n a owed t up : ℕ) (k : Json → Script Case) → t ≤ K → ((y : Json) → Bd n (k y) a owed t up) → Bd n (with_step x k) a owed t up
  step_bd None n a owed t up k le h = le
  step_bd (Some y) n a owed t up k le h = h y

  made_bd : {A : Type 0} (x : Made A) (at : Spot) (n a owed t up : ℕ) (k : A → Script Case) → t ≤ K → ((y : A) → Bd n (k y) a owed t up) → Bd n (with_made x at k) a owed t up
  made_bd (Ok y) at n a owed t up k le h = h y
  made_bd (Err cause) at n a owed t up k le h = le

  outcome_bd : {A : Type 0} (x : Outcome A) (at : Spot) (n a owed t up : ℕ) (k : A → Script Case) → t ≤ K → ((y : A) → Bd n (k y) a owed t up) → Bd n (with_outcome x at k) a owed t up
  outcome_bd (given y) at n a owed t up k le h = h y
  outcome_bd wide at n a owed t up k le h = le
  outcome_bd untold at n a owed t up k le h = le

  -- another case, whose result is the result
  tail : (n a owed t up : ℕ) (g : Case) → Fine d g → a * K + local d g ≤ n → t + local d g ≤ K → owed ≤ owes g → outs g t ≤ up → Bd n (Plays g give) a owed t up
  tail n a owed t up g fine le gap o u = (fine, le, gap, λ r v a' t' e f. (omega (arith, o), omega (arith, u, f)))

  judged_bd : (n a owed t up : ℕ) (r : Run) (step : Json) (own : Attempt) (plain : Bool) (k : Tried → Seen → Script Case) (v : Seen) → t ≤ K → ((x : Tried) → x.run.depth ≡ r.depth → Bd n (k x v) a owed t up) → Bd n (judged told b r step own plain k v) a owed t up
  judged_bd n a owed t up r step own plain k v le h =
      outcome_bd (verdict told (spoken_of b r v.done own) plain (criteria_of step)) (spot r step) n a owed t up (λ ok. k (tried b r v.done step own ok) v) le (λ ok. h (tried b r v.done step own ok) refl)

  -- what follows an attempt, after which an answer fewer is left
  abbrev After : (n a owed t up : ℕ) → Run → (Tried → Seen → Script Case) → Type 0
  After n a owed t up r k = (x : Tried) (v : Seen) (a' t' : ℕ) → a' < a → t' + 2 ≤ rise r.depth → x.run.depth ≡ r.depth → Bd n (k x v) a' (owed - 1) t' up

  operation_bd : (n a owed t up : ℕ) (r : Run) (step : Json) (v : Seen) (k : Tried → Seen → Script Case) → r.depth ≤ 32 → t ≤ K → After n a owed t up r k → Bd n (attempt_operation told b r step v k) a owed t up
  operation_bd n a owed t up r step v k deep gap h =
      made_bd (request_of b (spoken_of b r v.done Nothing) (workflow_named r.workflow b.arazzo) step) (spot r step) n a owed t up (λ q. within_budget b v (send q)) gap (λ q.
      if_bd (sends_in v.asked == b.max_attempts) n a owed t up (Stops (Budget b.max_attempts)) (send q) gap (λ e.
      (gap, λ y w a' lt. judged_bd n a' (owed - 1) 0 up r step (Exchange q y) (is_success y) k w (omega arith) (λ x f. h x w a' 0 lt (omega (arith, deep)) f))))
    where
      send : Request → Script Case
      send q = Sends q (after_reply told b r step q k)

  workflow_bd : (n a owed t up : ℕ) (r : Run) (step : Json) (w : List ℕ) (v : Seen) (k : Tried → Seen → Script Case) → r.depth ≤ 32 → a * K + reach d (r.depth + 1) + 1 ≤ n → t + reach d (r.depth + 1) + 1 ≤ K → After n a owed t up r k → Bd n (attempt_workflow told b r step w v k) a owed t up
  workflow_bd n a owed t up r step w v k deep le gap h =
      made_bd (inputs_of b (spoken_of b r v.done Nothing) step) (spot r step) n a owed t up (λ inputs. Plays (Runs w inputs (r.depth + 1) (spot r step)) (after_inner told b r step k)) (omega (arith, gap)) (λ inputs. (
        omega (arith, deep),
        omega (arith, le),
        omega (arith, gap),
        λ o u a' t' e f.
            judged_bd n a' (owed - 1) t' up r step (Inner (outputs_in o)) (is_completed o) k u (omega (arith, f, big)) (λ x g. h x u a' t' (omega (arith, e)) (omega (arith, f, deep)) g),
      ))

  attempt_bd : (n a owed t up : ℕ) (r : Run) (step : Json) (v : Seen) (k : Tried → Seen → Script Case) → r.depth ≤ 32 → a * K + reach d (r.depth + 1) + 1 ≤ n → t + reach d (r.depth + 1) + 1 ≤ K → After n a owed t up r k → Bd n (attempt told b r step v k) a owed t up
  attempt_bd n a owed t up r step v k deep le gap h = by_call (call_of step)
    where
      by_call : (c : Call) → Bd n (attempt_by c told b r step v k) a owed t up
      by_call (call.Id source id) = operation_bd n a owed t up r step v k deep (omega (arith, gap)) h
      by_call (call.At source pointer) = operation_bd n a owed t up r step v k deep (omega (arith, gap)) h
      by_call (call.Flow w) = workflow_bd n a owed t up r step w v k deep le gap h

  -- the action that is taken after an attempt
  chosen_bd : (n a t i : ℕ) (r : Run) (at : Spot) (counts : List Count) (x : Tried) (chosen : Option Json) → r.depth ≤ 32 → x.run.depth ≡ r.depth → a * K + K ≤ n → t + 2 ≤ rise r.depth → Bd n (Plays (chosen_case b i at counts x chosen) give) a 0 t (rise r.depth)
  chosen_bd n a t i r at counts x chosen deep same le up = go chosen
    where
      room : reach d (x.run.depth + 1) + 3 + 66 ≤ K
      room = omega (arith, big, reach_all d (x.run.depth + 1))

      by_act : (name : List ℕ) (y : Act) → Bd n (Plays (act_case b i at counts x name y) give) a 0 t (rise r.depth)
      by_act name act.End = tail n a 0 t (rise r.depth) (Ends_run x.run x.ok) (omega (arith, same, deep)) (omega (arith, room, le)) (omega (arith, room, up)) (omega arith) (omega (arith, up))
      by_act name (act.GoStep id) = tail n a 0 t (rise r.depth) (Goes_to x.run (index_of id (steps_of b x.run.workflow))) (omega (arith, same, deep)) (omega (arith, room, le)) (omega (arith, room, up)) (omega arith) (omega (arith, same))
      by_act name (act.GoFlow w) = tail n a 0 t (rise r.depth) (Goes_over x.run w at) (omega (arith, same, deep)) (omega (arith, room, le)) (omega (arith, room, up)) (omega arith) (omega (arith, same))
      by_act name (act.Retry seconds limit before) = tail n a 0 t (rise r.depth) (Retries x.run i at (once_more name counts) (delay_after seconds x.own) before) (omega (arith, same, deep)) (omega (arith, room, le)) (omega (arith, room, up)) (omega arith) (omega (arith, same))

      go : (c : Option Json) → Bd n (Plays (chosen_case b i at counts x c) give) a 0 t (rise r.depth)
      go None = tail n a 0 t (rise r.depth) (Goes_on x.run i x.ok) (omega (arith, same, deep)) (omega (arith, room, le)) (omega (arith, room, up)) (omega arith) (omega (arith, same, up))
      go (Some y) = by_act (action_name y) (act_of y)

  acts_bd : (n a t i : ℕ) (r : Run) (step : Json) (counts : List Count) (x : Tried) (v : Seen) → r.depth ≤ 32 → x.run.depth ≡ r.depth → a * K + K ≤ n → t + 2 ≤ rise r.depth → Bd n (acts told b i step counts x v) a 0 t (rise r.depth)
  acts_bd n a t i r step counts x v deep same le up =
      outcome_bd (choice told (spoken_of b x.run v.done x.own) counts (actions_at b x.run.workflow step x.ok)) (spot x.run step) n a 0 t (rise r.depth) (λ chosen. Plays (chosen_case b i (spot x.run step) counts x chosen) give) (omega (arith, up, big)) (λ chosen.
      chosen_bd n a t i r (spot x.run step) counts x chosen deep same le up)

  -- what goes before a step is tried again
  again_bd : (n a t i : ℕ) (r : Run) (at : Spot) (counts : List Count) (before : First) (v : Seen) (owed : ℕ) → r.depth ≤ 32 → owed ≤ 1 → a * K + reach d (r.depth + 1) + 2 ≤ n → t + reach d (r.depth + 1) + 2 ≤ K → Bd n (tries_again told b r i at counts before v) a owed t (rise r.depth)
  again_bd n a t i r at counts first.Nothing v owed deep o le gap = tail n a owed t (rise r.depth) (Enters r i counts) deep (omega (arith, le)) (omega (arith, gap)) o (omega arith)
  again_bd n a t i r at counts (first.Flow w) v owed deep o le gap =
      (omega (arith, deep), omega (arith, le), omega (arith, gap), λ x u a' t' e f. tail n a' (owed - 1) t' (rise r.depth) (Enters r i counts) deep (omega (arith, le, no_more a' a K (omega (arith, e)))) (omega (arith, f, big, reach_all d (r.depth + 1))) (omega (arith, o)) (omega arith))
  again_bd n a t i r at counts (first.Step id) v owed deep o le gap =
      step_bd (slice_get (steps_of b r.workflow) (index_of id (steps_of b r.workflow))) n a owed t (rise r.depth) (λ step. attempt told b r step v (enters_again i counts)) (omega (arith, gap)) (λ step.
      attempt_bd n a owed t (rise r.depth) r step v (enters_again i counts) deep (omega (arith, le)) (omega (arith, gap)) (λ x u a' t' lt up e.
      tail n a' (owed - 1) t' (rise r.depth) (Enters x.run i counts) (omega (arith, e, deep)) (omega (arith, le, fewer a' a K lt, big, reach_all d (x.run.depth + 1))) (omega (arith, up, big, reach_all d (x.run.depth + 1))) (omega (arith, o)) (omega (arith, e))))

  depend_fine : (r : Run) (ws : List (List ℕ)) → r.depth ≤ 32 → length ws ≤ d → Fine d (depend r ws)
  depend_fine r [] deep le = deep
  depend_fine r (w ∷ ws) deep le = (deep, omega (arith, le))

  depend_local : (r : Run) (ws : List (List ℕ)) → local d (depend r ws) ≤ reach d (r.depth + 1) + 2 + length ws
  depend_local r [] = omega arith
  depend_local r (w ∷ ws) = omega arith

  depend_owes : (r : Run) (ws : List (List ℕ)) → owes (depend r ws) ≡ 1
  depend_owes r [] = refl
  depend_owes r (w ∷ ws) = refl

  depend_outs : (r : Run) (ws : List (List ℕ)) (t : ℕ) → outs (depend r ws) t ≡ rise r.depth
  depend_outs r [] t = refl
  depend_outs r (w ∷ ws) t = refl

  depend_bd : (n a owed t up : ℕ) (r : Run) (ws : List (List ℕ)) → r.depth ≤ 32 → length ws ≤ d → owed ≤ 1 → rise r.depth ≤ up → a * K + reach d (r.depth + 1) + 2 + length ws ≤ n → t + reach d (r.depth + 1) + 2 + length ws ≤ K → Bd n (Plays (depend r ws) give) a owed t up
  depend_bd n a owed t up r ws deep few o u le gap = tail n a owed t up (depend r ws) (depend_fine r ws deep few) (omega (arith, le, depend_local r ws)) (omega (arith, gap, depend_local r ws)) (omega (arith, o, depend_owes r ws)) (omega (arith, u, depend_outs r ws t))

  next_bd : (n a t : ℕ) (r : Run) (i : ℕ) (o : Option Json) → r.depth ≤ 32 → a * K + reach d (r.depth + 1) + 2 ≤ n → t + reach d (r.depth + 1) + 3 ≤ K → Bd n (Plays (next_step r i o) give) a 0 (t + 1) (max (t + 2) (rise r.depth))
  next_bd n a t r i None deep le gap = tail n a 0 (t + 1) (max (t + 2) (rise r.depth)) (Closes r true) deep (omega (arith, le)) (omega (arith, gap)) (omega arith) (omega arith)
  next_bd n a t r i (Some step) deep le gap = tail n a 0 (t + 1) (max (t + 2) (rise r.depth)) (Enters r i []) deep (omega (arith, le)) (omega (arith, gap)) (omega arith) (omega arith)

  ends_bd : (n a t depth : ℕ) (w : List ℕ) (inputs : List Member) (o : Result) (v : Seen) → t ≤ rise depth → Bd n (after_run w inputs o v) a 0 t (rise depth)
  ends_bd n a t depth w inputs (Completed outputs) v le = (refl, le)
  ends_bd n a t depth w inputs (Broke outputs) v le = (refl, le)

  -- each case
  pub script_bounded : longest (workflows_in b.arazzo) ≤ d → (g : Case) (v : Seen) (n a t : ℕ) → Fine d g → a * K + local d g ≤ suc n → t + local d g ≤ K → Bd n (script told b g v) a (owes g) (t + 1) (outs g t)
  unfolding script
  script_bounded few (Runs w inputs depth at) v n a t fine le gap =
      if_bd (depth == deepest + 1) n a 1 (t + 1) (rise depth) (Stops (TooDeep at)) (Plays (depend r ws) (after_run w inputs)) (omega (arith, gap)) (λ e.
      let ne = eqb-false depth 33 e in
      let deep : depth ≤ 32 = omega (arith, fine, ne) in
      let many : length ws ≤ d = omega (arith, depends_le w (workflows_in b.arazzo), few) in
      (depend_fine r ws deep many, omega (arith, le, depend_local r ws, many, reach_next d depth deep), omega (arith, gap, depend_local r ws, many, reach_next d depth deep), λ o u a' t' e f. rw (depend_owes r ws) (ends_bd n a' t' depth w inputs o u (omega (arith, f, depend_outs r ws (t + 1))))))
    where
      r : Run
      r = begun w inputs depth

      ws : List (List ℕ)
      ws = depends_of b w
  script_bounded few (Depends r w ws) v n a t fine le gap =
      if_bd (is_recorded w v.done) n a 1 (t + 1) (rise r.depth) (Plays (depend r ws) give) (Plays (Runs w r.inputs (r.depth + 1) (spot_before r)) (after_dependency r ws)) (depend_bd n a 1 (t + 1) (rise r.depth) r ws fine.0 (omega (arith, fine.1)) (omega arith) (omega arith) (omega (arith, le)) (omega (arith, gap)))
      (λ e. (omega (arith, fine.0), omega (arith, le), omega (arith, gap), later))
    where
      later : (o : Result) (u : Seen) (a' t' : ℕ) → a' + 1 ≤ a → t' ≤ rise (r.depth + 1) → Bd n (after_dependency r ws o u) a' 0 t' (rise r.depth)
      later (Completed outputs) u a' t' e f = depend_bd n a' 0 t' (rise r.depth) r ws fine.0 (omega (arith, fine.1)) (omega arith) (omega arith) (omega (arith, le, no_more a' a K (omega (arith, e)))) (omega (arith, f, big, reach_all d r.depth, reach_next d r.depth fine.0, fine.1))
      later (Broke outputs) u a' t' e f = (refl, omega (arith, f))
  script_bounded few (Enters r i counts) v n a t fine le gap =
      step_bd (slice_get (steps_of b r.workflow) i) n a 1 (t + 1) (rise r.depth) (λ step. attempt told b r step v (acts told b i step counts)) (omega (arith, gap)) (λ step.
      attempt_bd n a 1 (t + 1) (rise r.depth) r step v (acts told b i step counts) fine (omega (arith, le)) (omega (arith, gap)) (λ x u a' t' lt up e.
      acts_bd n a' t' i r step counts x u fine e (omega (arith, le, fewer a' a K lt)) up))
  script_bounded few (Goes_on r i true) v n a t fine le gap = next_bd n a t r (i + 1) (slice_get (steps_of b r.workflow) (i + 1)) fine (omega (arith, le)) (omega (arith, gap))
  script_bounded few (Goes_on r i false) v n a t fine le gap = tail n a 0 (t + 1) (max (t + 2) (rise r.depth)) (Closes r false) fine (omega (arith, le)) (omega (arith, gap)) (omega arith) (omega arith)
  script_bounded few (Ends_run r ok) v n a t fine le gap = tail n a 0 (t + 1) (t + 2) (Closes r ok) fine (omega (arith, le)) (omega (arith, gap)) (omega arith) (omega arith)
  script_bounded few (Goes_to r i) v n a t fine le gap = tail n a 1 (t + 1) (rise r.depth) (Enters r i []) fine (omega (arith, le)) (omega (arith, gap)) (omega arith) (omega arith)
  script_bounded few (Goes_over r w at) v n a t fine le gap = tail n a 1 (t + 1) (rise r.depth) (Runs w r.inputs (r.depth + 1) at) (omega (arith, fine)) (omega (arith, le)) (omega (arith, gap)) (omega arith) (omega arith)
  script_bounded few (Retries r i at counts seconds before) v n a t fine le gap =
      if_bd (seconds == 0 || b.skip_delay) n a 1 (t + 1) (rise r.depth) (tries_again told b r i at counts before v) (Waits seconds (tries_again told b r i at counts before)) (again_bd n a (t + 1) i r at counts before v 1 fine (omega arith) (omega (arith, le)) (omega (arith, gap)))
      (λ e. (omega (arith, gap), λ u a' lt. again_bd n a' 0 i r at counts before u 0 fine (omega arith) (omega (arith, le, no_more a' a K (omega (arith, lt)))) (omega (arith, gap))))
  script_bounded few (Closes r ok) v n a t fine le gap = (refl, omega arith)

pub local_pos : (d : ℕ) (g : Case) → 0 < local d g
local_pos d (Runs w inputs depth at) = omega arith
local_pos d (Depends r w ws) = omega arith
local_pos d (Enters r i counts) = omega arith
local_pos d (Goes_on r i ok) = omega arith
local_pos d (Ends_run r ok) = omega arith
local_pos d (Goes_to r i) = omega arith
local_pos d (Goes_over r w at) = omega arith
local_pos d (Retries r i at counts seconds before) = omega arith
local_pos d (Closes r ok) = omega arith
