-- A play sends no more requests than may be sent, and waits no more often than it sends.
use Rattle.std.proofs.Common.{◌≡◌, ◌≢◌, ℕ, zero, suc, ◌+◌, ◌-◌, ◌<◌, ◌≤◌, ◌==◌, ◌||◌, if◌then◌else◌, Bool, true, false, List, [], ◌∷◌, ◌++◌, length, Option, Some, None, refl, sym, ◌∙◌, ap, arith}
use Rattle.std.specs.Prelude.{slice_get}
use Rattle.arz_json.specs.Tree.{has_opaque}
use Rattle.arz_json.specs.declared.Json.{Json}
use Rattle.arz_json.specs.declared.Json.TheVariants.{Object}
use Rattle.arz_world.specs.declared.Reply.{Reply}
use Rattle.arz_world.specs.declared.Request.{Request}
use Rattle.arz_description.specs.declared.parts.Act.{Act}
use Rattle.arz_description.specs.declared.parts.Act.TheVariants as act
use Rattle.arz_description.specs.declared.parts.First.{First}
use Rattle.arz_description.specs.declared.parts.First.TheVariants as first
use Rattle.arz_scope.specs.Scopes.{Attempt, Exchange, Inner, with_completion}
use Rattle.arz_flow.specs.declared.answers.Ask.{Ask}
use Rattle.arz_flow.specs.declared.answers.Ask.TheVariants.{Send, Wait}
use Rattle.arz_flow.specs.declared.answers.Answer.{Answer}
use Rattle.arz_flow.specs.declared.answers.Answer.TheVariants.{Reply as Replied, Served}
use Rattle.arz_relation.specs.declared.ends.End.{End}
use Rattle.arz_relation.specs.declared.ends.End.TheVariants.{Completed as EndCompleted, Broke as EndBroke, Out as EndOut, Stuck as EndStuck, TooDeep as EndTooDeep, Budget as EndBudget}
use Rattle.arz_flow.specs.declared.answers.Spot.{Spot}
use Rattle.arz_flow.specs.declared.bundle.Bundle.{Bundle}
use Rattle.arz_relation.specs.declared.retries.Count.{Count}
use Rattle.arz_relation.specs.Documents.{steps_of, index_of, depends_of, actions_at, action_name}
use Rattle.arz_description.specs.Parts.{act_of}
use Rattle.arz_relation.specs.Verdicts.{Patterned, is_success}
use Rattle.arz_relation.specs.Play.{Result, Completed, Broke, NoStep, Untold, Stuck, TooDeep, Budget, Seen, sends_in, waits_in, State, seen, Play, Spent, Lost, Out, Ends, Gives, Script, Give, Stops, Sends, Waits, Plays, Records, then_play, take_reply, take_served, after, turn, follow, play}
use Rattle.arz_relation.specs.Cases.{Run, Case, Runs, Depends, Enters, Goes_on, Ends_run, Goes_to, Goes_over, Retries, Closes, deepest, give, begun, spoken_of, spot, spot_before, Tried, tried, judged, outputs_in, is_completed, attempt, choice, act_case, chosen_case, acts, enters_again, tries_again, depend, after_dependency, after_run, is_recorded, next_step, script}
use Rattle.arz_relation.specs.Executions.{whole, start, spot_of, fuel, end_of, end_of_result, asks_of}
use Rattle.arz_relation.specs.Laws.{SendsKept, SendsLeft, WaitsKept, BudgetSpent}
use Rattle.arz_relation.proofs.Scripts.{by_test, by_step, by_outcome, by_verdict, by_attempt, by_result}

-- one request more was sent
pub send_counts : (qs : List Ask) (q : Request) → sends_in (qs ++ Send q ∷ []) ≡ sends_in qs + 1
send_counts [] q = refl
send_counts (Send p ∷ qs) q = omega (arith, send_counts qs q)
send_counts (Wait n ∷ qs) q = send_counts qs q

wait_counts : (qs : List Ask) (n : ℕ) → sends_in (qs ++ Wait n ∷ []) ≡ sends_in qs
wait_counts [] n = refl
wait_counts (Send p ∷ qs) n = omega (arith, wait_counts qs n)
wait_counts (Wait m ∷ qs) n = wait_counts qs n

-- one wait more
pub send_waits : (qs : List Ask) (q : Request) → waits_in (qs ++ Send q ∷ []) ≡ waits_in qs
send_waits [] q = refl
send_waits (Send p ∷ qs) q = send_waits qs q
send_waits (Wait n ∷ qs) q = omega (arith, send_waits qs q)

pub wait_waits : (qs : List Ask) (n : ℕ) → waits_in (qs ++ Wait n ∷ []) ≡ waits_in qs + 1
wait_waits [] n = refl
wait_waits (Send p ∷ qs) n = wait_waits qs n
wait_waits (Wait m ∷ qs) n = omega (arith, wait_waits qs n)

module _ (limit : ℕ) where
  -- so many requests were sent at most, fewer where one is next, and all of them where the budget ended the play
  abbrev Kept : Play → Type 0
  Kept Spent = Unit {0}
  Kept Lost = Unit {0}
  Kept (Out (Send q) s) = sends_in s.asked < limit
  Kept (Out (Wait n) s) = sends_in s.asked ≤ limit
  Kept (Ends NoStep s) = sends_in s.asked ≤ limit
  Kept (Ends Untold s) = sends_in s.asked ≤ limit
  Kept (Ends (Stuck cause at) s) = sends_in s.asked ≤ limit
  Kept (Ends (TooDeep at) s) = sends_in s.asked ≤ limit
  Kept (Ends (Budget n) s) = (n ≡ limit) × (sends_in s.asked ≡ limit)
  Kept (Gives r s) = sends_in s.asked ≤ limit

  then_kept : (p : Play) (f : Result → State → Play) → Kept p → ((r : Result) (s : State) → sends_in s.asked ≤ limit → Kept (f r s)) → Kept (then_play p f)
  then_kept Spent f g h = tt
  then_kept Lost f g h = tt
  then_kept (Out (Send q) s) f g h = g
  then_kept (Out (Wait n) s) f g h = g
  then_kept (Ends NoStep s) f g h = g
  then_kept (Ends Untold s) f g h = g
  then_kept (Ends (Stuck cause at) s) f g h = g
  then_kept (Ends (TooDeep at) s) f g h = g
  then_kept (Ends (Budget n) s) f g h = g
  then_kept (Gives r s) f g h = h r s g

  reply_kept : (q : Request) (left : List Answer) (s : State) (f : Reply → State → Play) → sends_in s.asked < limit → ((y : Reply) (t : State) → sends_in t.asked ≤ limit → Kept (f y t)) → Kept (take_reply q left s f)
  reply_kept q [] s f lt h = lt
  reply_kept q (Replied y ∷ left) s f lt h = h y (after (Send q) left s) (omega (arith, lt, send_counts s.asked q))
  reply_kept q (Served ∷ left) s f lt h = tt

  served_kept : (n : ℕ) (left : List Answer) (s : State) (f : State → Play) → sends_in s.asked ≤ limit → ((t : State) → sends_in t.asked ≤ limit → Kept (f t)) → Kept (take_served n left s f)
  served_kept n [] s f le h = le
  served_kept n (Replied y ∷ left) s f le h = tt
  served_kept n (Served ∷ left) s f le h = h (after (Wait n) left s) (omega (arith, le, wait_counts s.asked n))

  module _ {Goal : Type 0} where
    -- after these asks the script sends a request only where one more may be sent, and stops for the budget only where none may
    abbrev Frugal : Script Goal → List Ask → Type 0
    Frugal (Give r) asked = Unit {0}
    Frugal (Stops NoStep) asked = Unit {0}
    Frugal (Stops Untold) asked = Unit {0}
    Frugal (Stops (Stuck cause at)) asked = Unit {0}
    Frugal (Stops (TooDeep at)) asked = Unit {0}
    Frugal (Stops (Budget n)) asked = (n ≡ limit) × (sends_in asked ≡ limit)
    Frugal (Sends q k) asked = (sends_in asked ≢ limit) × ((y : Reply) (v : Seen) → Frugal (k y v) v.asked)
    Frugal (Waits n k) asked = (v : Seen) → Frugal (k v) v.asked
    Frugal (Plays g k) asked = (r : Result) (v : Seen) → Frugal (k r v) v.asked
    Frugal (Records c k) asked = Frugal k asked

    follow_kept : (f : Goal → State → Play) → ((g : Goal) (s : State) → sends_in s.asked ≤ limit → Kept (f g s)) → (c : Script Goal) (s : State) → sends_in s.asked ≤ limit → Frugal c s.asked → Kept (follow f c s)
    follow_kept f h (Give r) s le fr = le
    follow_kept f h (Stops NoStep) s le fr = le
    follow_kept f h (Stops Untold) s le fr = le
    follow_kept f h (Stops (Stuck cause at)) s le fr = le
    follow_kept f h (Stops (TooDeep at)) s le fr = le
    follow_kept f h (Stops (Budget n)) s le fr = fr
    follow_kept f h (Sends q k) s le fr = reply_kept q s.left s _ (omega (arith, le, fr.0)) (λ y t le'. follow_kept f h (k y (seen t)) t le' (fr.1 y (seen t)))
    follow_kept f h (Waits n k) s le fr = served_kept n s.left s _ le (λ t le'. follow_kept f h (k (seen t)) t le' (fr (seen t)))
    follow_kept f h (Plays g k) s le fr = then_kept (f g s) _ (h g s le) (λ r t le'. follow_kept f h (k r (seen t)) t le' (fr r (seen t)))
    follow_kept f h (Records c k) s le fr = follow_kept f h k (record s { done = with_completion c s.done }) le fr

    play_kept : (cases : Goal → Seen → Script Goal) → ((g : Goal) (v : Seen) → Frugal (cases g v) v.asked) → (n : ℕ) (g : Goal) (s : State) → sends_in s.asked ≤ limit → Kept (play cases n g s)
    play_kept cases h zero g s le = tt
    play_kept cases h (suc n) g s le = follow_kept (play cases n) (play_kept cases h n) (cases g (seen s)) (turn s) le (h g (seen s))

  asks_kept : (p : Play) → Kept p → sends_in (asks_of p) ≤ limit
  asks_kept Spent k = omega arith
  asks_kept Lost k = omega arith
  asks_kept (Out (Send q) s) k = omega (arith, k)
  asks_kept (Out (Wait n) s) k = k
  asks_kept (Ends NoStep s) k = k
  asks_kept (Ends Untold s) k = k
  asks_kept (Ends (Stuck cause at) s) k = k
  asks_kept (Ends (TooDeep at) s) k = k
  asks_kept (Ends (Budget n) s) k = omega (arith, k.1)
  asks_kept (Gives r s) k = k

  -- whether the end is for want of a reply, or for the budget
  abbrev is_cut : End → Bool
  is_cut (EndOut q) = true
  is_cut (EndBudget n) = true
  is_cut (EndCompleted outputs) = false
  is_cut (EndBroke outputs) = false
  is_cut (EndStuck cause at) = false
  is_cut (EndTooDeep at) = false

  true_isnt_false : true ≡ false → ⊥
  true_isnt_false e = absurd cc

  some_same : (d e : End) → Some d ≡ Some e → d ≡ e
  some_same d e h = cc

  plain_uncut : (b : Bool) (d e : End) → is_cut d ≡ false → is_cut e ≡ false → is_cut (if b then d else e) ≡ false
  plain_uncut true d e x y = x
  plain_uncut false d e x y = y

  result_uncut : (w : List ℕ) (o : Result) → is_cut (end_of_result w o) ≡ false
  result_uncut w (Completed outputs) = plain_uncut (has_opaque (Object outputs)) _ _ refl refl
  result_uncut w (Broke outputs) = plain_uncut (has_opaque (Object outputs)) _ _ refl refl

  not_cut : (w : List ℕ) (o : Result) (e : End) → is_cut e ≡ true → Some (end_of_result w o) ≡ Some e → ⊥
  not_cut w o e cut same = true_isnt_false (sym cut ∙ ap is_cut (sym (some_same _ _ same)) ∙ result_uncut w o)

  left_kept : (w : List ℕ) (p : Play) (q : Request) → Kept p → end_of w p ≡ Some (EndOut (Send q)) → sends_in (asks_of p) < limit
  left_kept w Spent q k e = absurd cc
  left_kept w Lost q k e = absurd cc
  left_kept w (Out (Send x) s) q k e = k
  left_kept w (Out (Wait n) s) q k e = absurd cc
  left_kept w (Ends NoStep s) q k e = absurd cc
  left_kept w (Ends Untold s) q k e = absurd cc
  left_kept w (Ends (Stuck cause at) s) q k e = absurd cc
  left_kept w (Ends (TooDeep at) s) q k e = absurd cc
  left_kept w (Ends (Budget n) s) q k e = absurd cc
  left_kept w (Gives o s) q k e = absurd (not_cut w o _ refl e)

  spent_kept : (w : List ℕ) (p : Play) (n : ℕ) → Kept p → end_of w p ≡ Some (EndBudget n) → (n ≡ limit) × (sends_in (asks_of p) ≡ limit)
  spent_kept w Spent n k e = absurd cc
  spent_kept w Lost n k e = absurd cc
  spent_kept w (Out q s) n k e = absurd cc
  spent_kept w (Ends NoStep s) n k e = absurd cc
  spent_kept w (Ends Untold s) n k e = absurd cc
  spent_kept w (Ends (Stuck cause at) s) n k e = absurd cc
  spent_kept w (Ends (TooDeep at) s) n k e = absurd cc
  spent_kept w (Ends (Budget m) s) n k e = let same : m ≡ n = cc in (sym same ∙ k.0, k.1)
  spent_kept w (Gives o s) n k e = absurd (not_cut w o _ refl e)

-- ---- waits

-- so many more requests were sent than was waited, at least
abbrev Ahead : ℕ → List Ask → Type 0
Ahead d asked = waits_in asked + d ≤ sends_in asked

-- the play never waited more often than it sent; where it gives, it is so far ahead
abbrev Paid : (up : ℕ) → Play → Type 0
Paid up Spent = Unit {0}
Paid up Lost = Unit {0}
Paid up (Out q s) = Ahead 0 s.asked
Paid up (Ends h s) = Ahead 0 s.asked
Paid up (Gives r s) = Ahead up s.asked

then_paid : (up mid : ℕ) (p : Play) (f : Result → State → Play) → Paid mid p → ((r : Result) (s : State) → Ahead mid s.asked → Paid up (f r s)) → Paid up (then_play p f)
then_paid up mid Spent f g h = tt
then_paid up mid Lost f g h = tt
then_paid up mid (Out q s) f g h = g
then_paid up mid (Ends c s) f g h = g
then_paid up mid (Gives r s) f g h = h r s g

reply_paid : (up d : ℕ) (q : Request) (left : List Answer) (s : State) (f : Reply → State → Play) → Ahead d s.asked → ((y : Reply) (t : State) → Ahead (d + 1) t.asked → Paid up (f y t)) → Paid up (take_reply q left s f)
reply_paid up d q [] s f is h = omega (arith, is)
reply_paid up d q (Replied y ∷ left) s f is h = h y (after (Send q) left s) (omega (arith, is, send_counts s.asked q, send_waits s.asked q))
reply_paid up d q (Served ∷ left) s f is h = tt

served_paid : (up d n : ℕ) (left : List Answer) (s : State) (f : State → Play) → 1 ≤ d → Ahead d s.asked → ((t : State) → Ahead (d - 1) t.asked → Paid up (f t)) → Paid up (take_served n left s f)
served_paid up d n [] s f some is h = omega (arith, is)
served_paid up d n (Replied y ∷ left) s f some is h = tt
served_paid up d n (Served ∷ left) s f some is h = h (after (Wait n) left s) (omega (arith, some, is, wait_counts s.asked n, wait_waits s.asked n))

-- needs: how far ahead a case must be entered. gains: how much further ahead it gives its result
module _ {Goal : Type 0} (needs gains : Goal → ℕ) where
  -- so far ahead, the script waits only where a request is paid for it, and gives its result that far ahead
  abbrev Pays : Script Goal → (d up : ℕ) → Type 0
  Pays (Give r) d up = up ≤ d
  Pays (Stops h) d up = Unit {0}
  Pays (Sends q k) d up = (y : Reply) (v : Seen) → Pays (k y v) (d + 1) up
  Pays (Waits n k) d up = (1 ≤ d) × ((v : Seen) → Pays (k v) (d - 1) up)
  Pays (Plays g k) d up = (needs g ≤ d) × ((r : Result) (v : Seen) → Pays (k r v) (d + gains g) up)
  Pays (Records c k) d up = Pays k d up

  follow_paid : (f : Goal → State → Play) → ((g : Goal) (s : State) (d : ℕ) → needs g ≤ d → Ahead d s.asked → Paid (d + gains g) (f g s)) → (c : Script Goal) (s : State) (d up : ℕ) → Ahead d s.asked → Pays c d up → Paid up (follow f c s)
  follow_paid f h (Give r) s d up is p = omega (arith, is, p)
  follow_paid f h (Stops c) s d up is p = omega (arith, is)
  follow_paid f h (Sends q k) s d up is p = reply_paid up d q s.left s _ is (λ y t more. follow_paid f h (k y (seen t)) t (d + 1) up more (p y (seen t)))
  follow_paid f h (Waits n k) s d up is p = served_paid up d n s.left s _ p.0 is (λ t less. follow_paid f h (k (seen t)) t (d - 1) up less (p.1 (seen t)))
  follow_paid f h (Plays g k) s d up is p = then_paid up (d + gains g) (f g s) _ (h g s d p.0 is) (λ r t more. follow_paid f h (k r (seen t)) t (d + gains g) up more (p.1 r (seen t)))
  follow_paid f h (Records c k) s d up is p = follow_paid f h k (record s { done = with_completion c s.done }) d up is p

  play_paid : (cases : Goal → Seen → Script Goal) → ((g : Goal) (v : Seen) (d : ℕ) → needs g ≤ d → Pays (cases g v) d (d + gains g)) → (n : ℕ) (g : Goal) (s : State) (d : ℕ) → needs g ≤ d → Ahead d s.asked → Paid (d + gains g) (play cases n g s)
  play_paid cases h zero g s d le is = tt
  play_paid cases h (suc n) g s d le is = follow_paid (play cases n) (play_paid cases h n) (cases g (seen s)) (turn s) d (d + gains g) is (h g (seen s) d le)

asks_paid : (up : ℕ) (p : Play) → Paid up p → waits_in (asks_of p) ≤ sends_in (asks_of p)
asks_paid up Spent k = omega arith
asks_paid up Lost k = omega arith
asks_paid up (Out q s) k = omega (arith, k)
asks_paid up (Ends h s) k = omega (arith, k)
asks_paid up (Gives r s) k = omega (arith, k)

-- a retry comes after an attempt, which sent a request
abbrev needs : Case → ℕ
needs (Runs w inputs depth at) = 0
needs (Depends r w ws) = 0
needs (Enters r i counts) = 0
needs (Goes_on r i ok) = 0
needs (Ends_run r ok) = 0
needs (Goes_to r i) = 0
needs (Goes_over r w at) = 0
needs (Retries r i at counts seconds before) = 1
needs (Closes r ok) = 0

-- what enters a step sends a request
abbrev gains : Case → ℕ
gains (Runs w inputs depth at) = 1
gains (Depends r w ws) = 1
gains (Enters r i counts) = 1
gains (Goes_on r i ok) = 0
gains (Ends_run r ok) = 0
gains (Goes_to r i) = 1
gains (Goes_over r w at) = 1
gains (Retries r i at counts seconds before) = 0
gains (Closes r ok) = 0

module _ (told : Patterned) (b : Bundle) where
  abbrev Spares : List Ask → Script Case → Type 0
  Spares asked c = Frugal b.max_attempts c asked

  attempt_spares : (r : Run) (step : Json) (v : Seen) (k : Tried → Seen → Script Case) → ((t : Tried) (u : Seen) → Spares u.asked (k t u)) → Spares v.asked (attempt told b r step v k)
  attempt_spares r step v k h =
      by_attempt (Spares v.asked) told b r step v k (λ cause. tt) (λ e. (refl, e))
      (λ q fewer. (fewer, λ y u. by_own (Exchange q y) (is_success y) u))
      (λ w inputs e. λ o u. by_own (Inner (outputs_in o)) (is_completed o) u)
    where
      by_own : (own : Attempt) (plain : Bool) (u : Seen) → Spares u.asked (judged told b r step own plain k u)
      by_own own plain u = by_verdict (Spares u.asked) told b r step own plain k u (λ cause. tt) (λ e. tt) (λ ok. h (tried b r u.done step own ok) u)

  acts_spares : (i : ℕ) (step : Json) (counts : List Count) (t : Tried) (v : Seen) → Spares v.asked (acts told b i step counts t v)
  acts_spares i step counts t v =
      by_outcome (Spares v.asked) (choice told (spoken_of b t.run v.done t.own) counts (actions_at b t.run.workflow step t.ok)) (spot t.run step) (λ chosen. Plays (chosen_case b i (spot t.run step) counts t chosen) give) (λ cause. tt) (λ e. tt) (λ chosen e. λ o u. tt)

  first_spares : (r : Run) (i : ℕ) (at : Spot) (counts : List Count) (before : First) (v : Seen) → Spares v.asked (tries_again told b r i at counts before v)
  first_spares r i at counts first.Nothing v = λ o u. tt
  first_spares r i at counts (first.Flow w) v = λ o u. λ p x. tt
  first_spares r i at counts (first.Step id) v =
      by_step (Spares v.asked) (slice_get (steps_of b r.workflow) (index_of id (steps_of b r.workflow))) (λ step. attempt told b r step v (enters_again i counts)) (λ e. tt) (λ step e.
      attempt_spares r step v (enters_again i counts) (λ t u. λ o x. tt))

  dependency_spares : (r : Run) (ws : List (List ℕ)) (o : Result) (v : Seen) → Spares v.asked (after_dependency r ws o v)
  dependency_spares r ws (Completed outputs) v = λ o u. tt
  dependency_spares r ws (Broke outputs) v = tt

  script_spares : (g : Case) (v : Seen) → Spares v.asked (script told b g v)
  unfolding script
  script_spares (Runs w inputs depth at) v =
      by_test (Spares v.asked) (depth == deepest + 1) (Stops (TooDeep at)) (Plays (depend (begun w inputs depth) (depends_of b w)) (after_run w inputs)) (λ e. tt) (λ e. λ o u. by_result (Spares u.asked) w inputs o u (λ x. tt) (λ x. tt))
  script_spares (Depends r w ws) v =
      by_test (Spares v.asked) (is_recorded w v.done) (Plays (depend r ws) give) (Plays (Runs w r.inputs (r.depth + 1) (spot_before r)) (after_dependency r ws)) (λ e. λ o u. tt) (λ e. λ o u. dependency_spares r ws o u)
  script_spares (Enters r i counts) v =
      by_step (Spares v.asked) (slice_get (steps_of b r.workflow) i) (λ step. attempt told b r step v (acts told b i step counts)) (λ e. tt) (λ step e.
      attempt_spares r step v (acts told b i step counts) (λ t u. acts_spares i step counts t u))
  script_spares (Goes_on r i true) v = λ o u. tt
  script_spares (Goes_on r i false) v = λ o u. tt
  script_spares (Ends_run r ok) v = λ o u. tt
  script_spares (Goes_to r i) v = λ o u. tt
  script_spares (Goes_over r w at) v = λ o u. tt
  script_spares (Retries r i at counts seconds before) v =
      by_test (Spares v.asked) (seconds == 0 || b.skip_delay) (tries_again told b r i at counts before v) (Waits seconds (tries_again told b r i at counts before)) (λ e. first_spares r i at counts before v) (λ e. λ u. first_spares r i at counts before u)
  script_spares (Closes r ok) v = tt

  whole_kept : (r : List Answer) → Kept b.max_attempts (whole told b r)
  whole_kept r = play_kept b.max_attempts (script told b) script_spares (fuel b (length r)) (Runs b.workflow b.inputs 1 (spot_of b.workflow)) (start r) (omega arith)

  -- ---- waits

  abbrev Covers : (d up : ℕ) → Script Case → Type 0
  Covers d up c = Pays needs gains c d up

  -- a case whose result is the result
  tail : (g : Case) (d up : ℕ) → needs g ≤ d → up ≤ d + gains g → Covers d up (Plays g give)
  tail g d up le far = (le, λ o u. far)

  attempt_covers : (r : Run) (step : Json) (v : Seen) (k : Tried → Seen → Script Case) (d up : ℕ) → ((t : Tried) (u : Seen) → Covers (d + 1) up (k t u)) → Covers d up (attempt told b r step v k)
  attempt_covers r step v k d up h =
      by_attempt (Covers d up) told b r step v k (λ cause. tt) (λ e. tt)
      (λ q fewer. λ y u. by_own (Exchange q y) (is_success y) u)
      (λ w inputs e. (omega arith, λ o u. by_own (Inner (outputs_in o)) (is_completed o) u))
    where
      by_own : (own : Attempt) (plain : Bool) (u : Seen) → Covers (d + 1) up (judged told b r step own plain k u)
      by_own own plain u = by_verdict (Covers (d + 1) up) told b r step own plain k u (λ cause. tt) (λ e. tt) (λ ok. h (tried b r u.done step own ok) u)

  act_needs : (i : ℕ) (at : Spot) (counts : List Count) (t : Tried) (name : List ℕ) (a : Act) → needs (act_case b i at counts t name a) ≤ 1
  act_needs i at counts t name act.End = omega arith
  act_needs i at counts t name (act.GoStep id) = omega arith
  act_needs i at counts t name (act.GoFlow w) = omega arith
  act_needs i at counts t name (act.Retry seconds limit before) = omega arith

  chosen_needs : (i : ℕ) (at : Spot) (counts : List Count) (t : Tried) (chosen : Option Json) → needs (chosen_case b i at counts t chosen) ≤ 1
  chosen_needs i at counts t None = omega arith
  chosen_needs i at counts t (Some a) = act_needs i at counts t (action_name a) (act_of a)

  acts_covers : (i : ℕ) (step : Json) (counts : List Count) (t : Tried) (v : Seen) (d : ℕ) → Covers (d + 1) (d + 1) (acts told b i step counts t v)
  acts_covers i step counts t v d =
      by_outcome (Covers (d + 1) (d + 1)) (choice told (spoken_of b t.run v.done t.own) counts (actions_at b t.run.workflow step t.ok)) (spot t.run step) (λ chosen. Plays (chosen_case b i (spot t.run step) counts t chosen) give) (λ cause. tt) (λ e. tt) (λ chosen e.
      tail (chosen_case b i (spot t.run step) counts t chosen) (d + 1) (d + 1) (omega (arith, chosen_needs i (spot t.run step) counts t chosen)) (omega arith))

  -- the step sends again what its wait used up
  first_covers : (r : Run) (i : ℕ) (at : Spot) (counts : List Count) (before : First) (v : Seen) (d up : ℕ) → up ≤ d + 1 → Covers d up (tries_again told b r i at counts before v)
  first_covers r i at counts first.Nothing v d up le = tail (Enters r i counts) d up (omega arith) le
  first_covers r i at counts (first.Flow w) v d up le = (omega arith, λ o u. tail (Enters r i counts) (d + 1) up (omega arith) (omega (arith, le)))
  first_covers r i at counts (first.Step id) v d up le =
      by_step (Covers d up) (slice_get (steps_of b r.workflow) (index_of id (steps_of b r.workflow))) (λ step. attempt told b r step v (enters_again i counts)) (λ e. tt) (λ step e.
      attempt_covers r step v (enters_again i counts) d up (λ t u. tail (Enters t.run i counts) (d + 1) up (omega arith) (omega (arith, le))))

  depend_covers : (r : Run) (ws : List (List ℕ)) (d up : ℕ) → up ≤ d + 1 → Covers d up (Plays (depend r ws) give)
  depend_covers r [] d up le = tail (depend r []) d up (omega arith) le
  depend_covers r (w ∷ ws) d up le = tail (depend r (w ∷ ws)) d up (omega arith) le

  depend_gains : (r : Run) (ws : List (List ℕ)) → (needs (depend r ws) ≡ 0) × (gains (depend r ws) ≡ 1)
  depend_gains r [] = (refl, refl)
  depend_gains r (w ∷ ws) = (refl, refl)

  dependency_covers : (r : Run) (ws : List (List ℕ)) (o : Result) (v : Seen) (d : ℕ) → Covers (d + 1) (d + 1) (after_dependency r ws o v)
  dependency_covers r ws (Completed outputs) v d = depend_covers r ws (d + 1) (d + 1) (omega arith)
  dependency_covers r ws (Broke outputs) v d = omega arith

  next_covers : (r : Run) (i : ℕ) (o : Option Json) (d : ℕ) → Covers d (d + 0) (Plays (next_step r i o) give)
  next_covers r i None d = tail (Closes r true) d (d + 0) (omega arith) (omega arith)
  next_covers r i (Some step) d = tail (Enters r i []) d (d + 0) (omega arith) (omega arith)

  script_covers : (g : Case) (v : Seen) (d : ℕ) → needs g ≤ d → Covers d (d + gains g) (script told b g v)
  unfolding script
  script_covers (Runs w inputs depth at) v d le =
      let first = depend_gains (begun w inputs depth) (depends_of b w) in
      by_test (Covers d (d + 1)) (depth == deepest + 1) (Stops (TooDeep at)) (Plays (depend (begun w inputs depth) (depends_of b w)) (after_run w inputs)) (λ e. tt) (λ e.
      (omega (arith, first.0), λ o u. by_result (Covers (d + gains (depend (begun w inputs depth) (depends_of b w))) (d + 1)) w inputs o u (λ x. omega (arith, first.1)) (λ x. omega (arith, first.1))))
  script_covers (Depends r w ws) v d le =
      by_test (Covers d (d + 1)) (is_recorded w v.done) (Plays (depend r ws) give) (Plays (Runs w r.inputs (r.depth + 1) (spot_before r)) (after_dependency r ws)) (λ e. depend_covers r ws d (d + 1) (omega arith)) (λ e. (omega arith, λ o u. dependency_covers r ws o u d))
  script_covers (Enters r i counts) v d le =
      by_step (Covers d (d + 1)) (slice_get (steps_of b r.workflow) i) (λ step. attempt told b r step v (acts told b i step counts)) (λ e. tt) (λ step e.
      attempt_covers r step v (acts told b i step counts) d (d + 1) (λ t u. acts_covers i step counts t u d))
  script_covers (Goes_on r i true) v d le = next_covers r (i + 1) (slice_get (steps_of b r.workflow) (i + 1)) d
  script_covers (Goes_on r i false) v d le = tail (Closes r false) d (d + 0) (omega arith) (omega arith)
  script_covers (Ends_run r ok) v d le = tail (Closes r ok) d (d + 0) (omega arith) (omega arith)
  script_covers (Goes_to r i) v d le = tail (Enters r i []) d (d + 1) (omega arith) (omega arith)
  script_covers (Goes_over r w at) v d le = tail (Runs w r.inputs (r.depth + 1) at) d (d + 1) (omega arith) (omega arith)
  script_covers (Retries r i at counts seconds before) v d le =
      by_test (Covers d (d + 0)) (seconds == 0 || b.skip_delay) (tries_again told b r i at counts before v) (Waits seconds (tries_again told b r i at counts before)) (λ e. first_covers r i at counts before v d (d + 0) (omega arith)) (λ e.
      (le, λ u. first_covers r i at counts before u (d - 1) (d + 0) (omega (arith, le))))
  script_covers (Closes r ok) v d le = omega arith

  whole_paid : (r : List Answer) → Paid 1 (whole told b r)
  whole_paid r = play_paid needs gains (script told b) script_covers (fuel b (length r)) (Runs b.workflow b.inputs 1 (spot_of b.workflow)) (start r) 0 (omega arith) (omega arith)

pub sends_kept : (told : Patterned) → SendsKept told
sends_kept told b r = asks_kept b.max_attempts (whole told b r) (whole_kept told b r)

pub sends_left : (told : Patterned) → SendsLeft told
sends_left told b r q e = left_kept b.max_attempts b.workflow (whole told b r) q (whole_kept told b r) e

pub waits_kept : (told : Patterned) → WaitsKept told
waits_kept told b r = asks_paid 1 (whole told b r) (whole_paid told b r)

pub budget_spent : (told : Patterned) → BudgetSpent told
budget_spent told b r n e = spent_kept b.max_attempts b.workflow (whole told b r) n (whole_kept told b r) e
