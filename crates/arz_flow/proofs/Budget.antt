-- A play sends no more requests than may be sent.
use Rattle.std.proofs.Common.{◌≡◌, ◌≢◌, ℕ, zero, suc, ◌+◌, ◌<◌, ◌≤◌, ◌==◌, if◌then◌else◌, Bool, true, false, List, [], ◌∷◌, ◌++◌, length, Option, Some, None, refl, sym, ◌∙◌, ap, arith}
use Rattle.std.specs.Prelude.{slice_get}
use Rattle.std.specs.declared.result.Result.TheVariants.{Ok, Err}
use Rattle.std.proofs.lemmas.Bool.{eqb-true, eqb-false}
use Rattle.arz_json.specs.Tree.{has_opaque}
use Rattle.arz_json.specs.declared.Json.{Json}
use Rattle.arz_json.specs.declared.Json.TheVariants.{Object}
use Rattle.arz_json.specs.declared.Member.{Member}
use Rattle.arz_world.specs.declared.Reply.{Reply}
use Rattle.arz_world.specs.declared.Request.{Request}
use Rattle.arz_flow.specs.declared.answers.Ask.{Ask}
use Rattle.arz_flow.specs.declared.answers.Ask.TheVariants.{Send, Wait}
use Rattle.arz_flow.specs.declared.answers.Answer.{Answer}
use Rattle.arz_flow.specs.declared.answers.Answer.TheVariants.{Reply as Replied, Served}
use Rattle.arz_flow.specs.declared.answers.End.{End}
use Rattle.arz_flow.specs.declared.answers.End.TheVariants.{Completed as EndCompleted, Broke as EndBroke, Out as EndOut, Stuck as EndStuck, Budget as EndBudget}
use Rattle.arz_flow.specs.declared.answers.Spot.{Spot}
use Rattle.arz_path.specs.Outcome.{Outcome, given, wide, untold}
use Rattle.arz_flow.specs.declared.bundle.Bundle.{Bundle}
use Rattle.arz_flow.specs.Documents.{steps_of, workflow_named}
use Rattle.arz_request.specs.Causes.{Made}
use Rattle.arz_flow.specs.Requests.{request_of}
use Rattle.arz_scope.specs.Scopes.{Nothing, found}
use Rattle.arz_flow.specs.Play.{Result, Completed, Broke, NoStep, Untold, Stuck, Budget, Seen, sends_in, State, seen, Play, Spent, Lost, Out, Ends, Gives, Script, Give, Stops, Sends, Waits, Plays, Records, then_play, take_reply, take_served, after, turn, follow, play}
use Rattle.arz_flow.specs.Cases.{Case, Runs, Enters, Goes_on, Closes, give, after_run, with_step, with_request, within_budget, with_verdict, verdict_of, spot, surroundings, fact_of, with_fact, after_reply, attempt, script}
use Rattle.arz_flow.specs.Executions.{whole, start, fuel, end_of, end_of_result, asks_of}
use Rattle.arz_flow.specs.Verdicts.{Patterned}
use Rattle.arz_flow.specs.Laws.{SendsKept, SendsLeft, BudgetSpent}

-- one request more was sent
pub send_counts : (qs : List Ask) (q : Request) → sends_in (qs ++ Send q ∷ []) ≡ sends_in qs + 1
send_counts [] q = refl
send_counts (Send p ∷ qs) q = omega (arith, send_counts qs q)
send_counts (Wait n ∷ qs) q = send_counts qs q

wait_counts : (qs : List Ask) (n : ℕ) → sends_in (qs ++ Wait n ∷ []) ≡ sends_in qs
wait_counts [] n = refl
wait_counts (Send p ∷ qs) n = omega (arith, wait_counts qs n)
wait_counts (Wait m ∷ qs) n = wait_counts qs n

module _ (limit : ℕ) where
  -- so many requests were sent at most, fewer where one is next, and all of them where the budget ended the play
  abbrev Kept : Play → Type 0
  Kept Spent = Unit {0}
  Kept Lost = Unit {0}
  Kept (Out (Send q) s) = sends_in s.asked < limit
  Kept (Out (Wait n) s) = sends_in s.asked ≤ limit
  Kept (Ends NoStep s) = sends_in s.asked ≤ limit
  Kept (Ends Untold s) = sends_in s.asked ≤ limit
  Kept (Ends (Stuck cause at) s) = sends_in s.asked ≤ limit
  Kept (Ends (Budget n) s) = (n ≡ limit) × (sends_in s.asked ≡ limit)
  Kept (Gives r s) = sends_in s.asked ≤ limit

  then_kept : (p : Play) (f : Result → State → Play) → Kept p → ((r : Result) (s : State) → sends_in s.asked ≤ limit → Kept (f r s)) → Kept (then_play p f)
  then_kept Spent f g h = tt
  then_kept Lost f g h = tt
  then_kept (Out (Send q) s) f g h = g
  then_kept (Out (Wait n) s) f g h = g
  then_kept (Ends NoStep s) f g h = g
  then_kept (Ends Untold s) f g h = g
  then_kept (Ends (Stuck cause at) s) f g h = g
  then_kept (Ends (Budget n) s) f g h = g
  then_kept (Gives r s) f g h = h r s g

  reply_kept : (q : Request) (left : List Answer) (s : State) (f : Reply → State → Play) → sends_in s.asked < limit → ((y : Reply) (t : State) → sends_in t.asked ≤ limit → Kept (f y t)) → Kept (take_reply q left s f)
  reply_kept q [] s f lt h = lt
  reply_kept q (Replied y ∷ left) s f lt h = h y (after (Send q) left s) (omega (arith, lt, send_counts s.asked q))
  reply_kept q (Served ∷ left) s f lt h = tt

  served_kept : (n : ℕ) (left : List Answer) (s : State) (f : State → Play) → sends_in s.asked ≤ limit → ((t : State) → sends_in t.asked ≤ limit → Kept (f t)) → Kept (take_served n left s f)
  served_kept n [] s f le h = le
  served_kept n (Replied y ∷ left) s f le h = tt
  served_kept n (Served ∷ left) s f le h = h (after (Wait n) left s) (omega (arith, le, wait_counts s.asked n))

  module _ {Goal : Type 0} where
    -- after these asks the script sends a request only where one more may be sent, and stops for the budget only where none may
    abbrev Frugal : Script Goal → List Ask → Type 0
    Frugal (Give r) asked = Unit {0}
    Frugal (Stops NoStep) asked = Unit {0}
    Frugal (Stops Untold) asked = Unit {0}
    Frugal (Stops (Stuck cause at)) asked = Unit {0}
    Frugal (Stops (Budget n)) asked = (n ≡ limit) × (sends_in asked ≡ limit)
    Frugal (Sends q k) asked = (sends_in asked ≢ limit) × ((y : Reply) (v : Seen) → Frugal (k y v) v.asked)
    Frugal (Waits n k) asked = (v : Seen) → Frugal (k v) v.asked
    Frugal (Plays g k) asked = (r : Result) (v : Seen) → Frugal (k r v) v.asked
    Frugal (Records c k) asked = Frugal k asked

    follow_kept : (f : Goal → State → Play) → ((g : Goal) (s : State) → sends_in s.asked ≤ limit → Kept (f g s)) → (c : Script Goal) (s : State) → sends_in s.asked ≤ limit → Frugal c s.asked → Kept (follow f c s)
    follow_kept f h (Give r) s le fr = le
    follow_kept f h (Stops NoStep) s le fr = le
    follow_kept f h (Stops Untold) s le fr = le
    follow_kept f h (Stops (Stuck cause at)) s le fr = le
    follow_kept f h (Stops (Budget n)) s le fr = fr
    follow_kept f h (Sends q k) s le fr = reply_kept q s.left s _ (omega (arith, le, fr.0)) (λ y t le'. follow_kept f h (k y (seen t)) t le' (fr.1 y (seen t)))
    follow_kept f h (Waits n k) s le fr = served_kept n s.left s _ le (λ t le'. follow_kept f h (k (seen t)) t le' (fr (seen t)))
    follow_kept f h (Plays g k) s le fr = then_kept (f g s) _ (h g s le) (λ r t le'. follow_kept f h (k r (seen t)) t le' (fr r (seen t)))
    follow_kept f h (Records c k) s le fr = follow_kept f h k (record s { done = s.done ++ c ∷ [] }) le fr

    play_kept : (cases : Goal → Seen → Script Goal) → ((g : Goal) (v : Seen) → Frugal (cases g v) v.asked) → (n : ℕ) (g : Goal) (s : State) → sends_in s.asked ≤ limit → Kept (play cases n g s)
    play_kept cases h zero g s le = tt
    play_kept cases h (suc n) g s le = follow_kept (play cases n) (play_kept cases h n) (cases g (seen s)) (turn s) le (h g (seen s))

  asks_kept : (p : Play) → Kept p → sends_in (asks_of p) ≤ limit
  asks_kept Spent k = omega arith
  asks_kept Lost k = omega arith
  asks_kept (Out (Send q) s) k = omega (arith, k)
  asks_kept (Out (Wait n) s) k = k
  asks_kept (Ends NoStep s) k = k
  asks_kept (Ends Untold s) k = k
  asks_kept (Ends (Stuck cause at) s) k = k
  asks_kept (Ends (Budget n) s) k = omega (arith, k.1)
  asks_kept (Gives r s) k = k

  -- whether the end is for want of a reply, or for the budget
  abbrev is_cut : End → Bool
  is_cut (EndOut q) = true
  is_cut (EndBudget n) = true
  is_cut (EndCompleted outputs) = false
  is_cut (EndBroke outputs) = false
  is_cut (EndStuck cause at) = false

  true_isnt_false : true ≡ false → ⊥
  true_isnt_false e = absurd cc

  some_same : (d e : End) → Some d ≡ Some e → d ≡ e
  some_same d e h = cc

  plain_uncut : (b : Bool) (d e : End) → is_cut d ≡ false → is_cut e ≡ false → is_cut (if b then d else e) ≡ false
  plain_uncut true d e x y = x
  plain_uncut false d e x y = y

  result_uncut : (w : List ℕ) (o : Result) → is_cut (end_of_result w o) ≡ false
  result_uncut w (Completed outputs) = plain_uncut (has_opaque (Object outputs)) _ _ refl refl
  result_uncut w (Broke outputs) = plain_uncut (has_opaque (Object outputs)) _ _ refl refl

  not_cut : (w : List ℕ) (o : Result) (e : End) → is_cut e ≡ true → Some (end_of_result w o) ≡ Some e → ⊥
  not_cut w o e cut same = true_isnt_false (sym cut ∙ ap is_cut (sym (some_same _ _ same)) ∙ result_uncut w o)

  left_kept : (w : List ℕ) (p : Play) (q : Request) → Kept p → end_of w p ≡ Some (EndOut (Send q)) → sends_in (asks_of p) < limit
  left_kept w Spent q k e = absurd cc
  left_kept w Lost q k e = absurd cc
  left_kept w (Out (Send x) s) q k e = k
  left_kept w (Out (Wait n) s) q k e = absurd cc
  left_kept w (Ends NoStep s) q k e = absurd cc
  left_kept w (Ends Untold s) q k e = absurd cc
  left_kept w (Ends (Stuck cause at) s) q k e = absurd cc
  left_kept w (Ends (Budget n) s) q k e = absurd cc
  left_kept w (Gives o s) q k e = absurd (not_cut w o _ refl e)

  spent_kept : (w : List ℕ) (p : Play) (n : ℕ) → Kept p → end_of w p ≡ Some (EndBudget n) → (n ≡ limit) × (sends_in (asks_of p) ≡ limit)
  spent_kept w Spent n k e = absurd cc
  spent_kept w Lost n k e = absurd cc
  spent_kept w (Out q s) n k e = absurd cc
  spent_kept w (Ends NoStep s) n k e = absurd cc
  spent_kept w (Ends Untold s) n k e = absurd cc
  spent_kept w (Ends (Stuck cause at) s) n k e = absurd cc
  spent_kept w (Ends (Budget m) s) n k e = let same : m ≡ n = cc in (sym same ∙ k.0, k.1)
  spent_kept w (Gives o s) n k e = absurd (not_cut w o _ refl e)

module _ (told : Patterned) (b : Bundle) where
  abbrev Spares : Script Case → List Ask → Type 0
  Spares c asked = Frugal b.max_attempts c asked

  step_spares : (x : Option Json) (asked : List Ask) (k : Json → Script Case) → ((y : Json) → Spares (k y) asked) → Spares (with_step x k) asked
  step_spares None asked k h = tt
  step_spares (Some y) asked k h = h y

  request_spares : (o : Made Request) (at : Spot) (asked : List Ask) (k : Request → Script Case) → ((q : Request) → Spares (k q) asked) → Spares (with_request o at k) asked
  request_spares (Ok q) at asked k h = h q
  request_spares (Err cause) at asked k h = tt

  send_spares : (v : Seen) (q : Request) (k : Reply → Seen → Script Case) → ((y : Reply) (u : Seen) → Spares (k y u) u.asked) → Spares (within_budget b v (Sends q k)) v.asked
  send_spares v q k h = by_test (sends_in v.asked == b.max_attempts) refl
    where
      by_test : (spent : Bool) → (sends_in v.asked == b.max_attempts) ≡ spent → Spares (if spent then Stops (Budget b.max_attempts) else Sends q k) v.asked
      by_test true is = (refl, eqb-true (sends_in v.asked) b.max_attempts is)
      by_test false is = (eqb-false (sends_in v.asked) b.max_attempts is, h)

  verdict_spares : (o : Outcome Bool) (at : Spot) (asked : List Ask) (k : Bool → Script Case) → ((ok : Bool) → Spares (k ok) asked) → Spares (with_verdict o at k) asked
  verdict_spares (given ok) at asked k h = h ok
  verdict_spares wide at asked k h = tt
  verdict_spares untold at asked k h = tt

  ends_spares : (w : List ℕ) (inputs : List Member) (o : Result) (v : Seen) → Spares (after_run w inputs o v) v.asked
  ends_spares w inputs (Completed outputs) v = tt
  ends_spares w inputs (Broke outputs) v = tt

  script_spares : (g : Case) (v : Seen) → Spares (script told b g v) v.asked
  unfolding script
  script_spares (Runs w inputs) v = λ o u. ends_spares w inputs o u
  script_spares (Enters r i) v =
      step_spares (slice_get (steps_of b r.workflow) i) v.asked (attempt told b r i v) (λ step.
      request_spares (request_of b (found (surroundings b r v.done) Nothing) (workflow_named r.workflow b.arazzo) step) (spot r step) v.asked (λ q. within_budget b v (Sends q (after_reply told b r i step q))) (λ q.
      send_spares v q (after_reply told b r i step q) (λ y u.
      verdict_spares (verdict_of told b r u.done step q y) (spot r step) u.asked (λ ok. Plays (Goes_on (with_fact r (fact_of b r u.done step q y)) i ok) give) (λ ok. λ o w. tt))))
  script_spares (Goes_on r i true) v = λ o u. tt
  script_spares (Goes_on r i false) v = λ o u. tt
  script_spares (Closes r ok) v = tt

  whole_kept : (r : List Answer) → Kept b.max_attempts (whole told b r)
  whole_kept r = play_kept b.max_attempts (script told b) script_spares (fuel (length r)) (Runs b.workflow b.inputs) (start r) (omega arith)

pub sends_kept : (told : Patterned) → SendsKept told
sends_kept told b r = asks_kept b.max_attempts (whole told b r) (whole_kept told b r)

pub sends_left : (told : Patterned) → SendsLeft told
sends_left told b r q e = left_kept b.max_attempts b.workflow (whole told b r) q (whole_kept told b r) e

pub budget_spent : (told : Patterned) → BudgetSpent told
budget_spent told b r n e = spent_kept b.max_attempts b.workflow (whole told b r) n (whole_kept told b r) e
