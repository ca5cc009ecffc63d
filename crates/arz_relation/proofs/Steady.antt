-- How a play ends everything: only as its cases may. Where what its cases name is there, it never ends for want of a step; and
-- where it ends for want of a pattern, so it does over more answers.
use Rattle.std.proofs.Common.{◌≡◌, ℕ, zero, suc, ◌+◌, ◌-◌, ◌*◌, ◌≤◌, ◌<◌, ◌==◌, ◌||◌, if◌then◌else◌, cond, Bool, true, false, List, [], ◌∷◌, ◌++◌, length, find, All, Option, Some, None, refl, sym, ◌∙◌, ap, subst, arith, length-append}
use Rattle.std.specs.Prelude.{slice_get}
use Rattle.std.specs.Option.{is_some}
use Rattle.std.proofs.lemmas.Bool.{ltb-true}
use Rattle.std.proofs.lemmas.List.Elements.{All-head, All-tail, All-append, All-filter}
use Rattle.std.proofs.lemmas.Option.{same_Some}
use Rattle.arz_json.specs.declared.Json.{Json}
use Rattle.arz_world.specs.declared.Reply.{Reply}
use Rattle.arz_world.specs.declared.Request.{Request}
use Rattle.arz_expr.specs.declared.syntax.Base.{Base}
use Rattle.arz_description.specs.Calls.{call_of}
use Rattle.arz_description.specs.Parts.{act_of}
use Rattle.arz_description.specs.declared.parts.Act.{Act}
use Rattle.arz_description.specs.declared.parts.Act.TheVariants as act
use Rattle.arz_description.specs.declared.parts.First.{First}
use Rattle.arz_description.specs.declared.parts.First.TheVariants as first
use Rattle.arz_path.specs.Outcome.{Outcome, given, wide, untold, and_then}
use Rattle.arz_scope.specs.Scopes.{Attempt, Exchange, Inner, with_completion}
use Rattle.arz_flow.specs.declared.answers.Answer.{Answer}
use Rattle.arz_flow.specs.declared.answers.Answer.TheVariants.{Reply as Replied, Served}
use Rattle.arz_relation.specs.declared.ends.End.{End}
use Rattle.arz_flow.specs.declared.answers.Spot.{Spot}
use Rattle.arz_flow.specs.declared.bundle.Bundle.{Bundle}
use Rattle.arz_relation.specs.declared.retries.Count.{Count}
use Rattle.arz_relation.specs.Documents.{workflows_in, is_workflow, workflow_named, steps_under, steps_in, steps_of, index_of, depends_in, depends_of, step_actions, actions_under, actions_in, actions_at, criteria_in}
use Rattle.arz_relation.specs.Play.{Result, Completed, Broke, Halt, NoStep, Untold, Stuck, TooDeep, Budget, Seen, State, seen, Play, Spent, Lost, Out, Ends, Gives, Script, Give, Stops, Sends, Waits, Plays, Records, then_play, take_reply, take_served, turn, follow, play}
use Rattle.arz_relation.specs.Cases.{Run, Case, Runs, Depends, Enters, Goes_on, Ends_run, Goes_to, Goes_over, Retries, Closes, deepest, give, begun, spoken_of, spot, spot_before, Tried, tried, outputs_in, is_completed, attempt, choice, act_case, chosen_case, acts, enters_again, tries_again, depend, after_dependency, after_run, is_recorded, next_step, with_step, script}
use Rattle.arz_relation.specs.Executions.{TookAll, execution, whole, start, spot_of, pace, fuel, end_of, is_told}
use Rattle.arz_relation.specs.Retries.{is_used_up}
use Rattle.arz_relation.specs.Valid.{IsValid, IsRunnable, IsLinked, Lead, has_workflow, has_called, has_first, has_target}
use Rattle.arz_relation.specs.Verdicts.{Patterned, is_success, all_hold}
use Rattle.arz_relation.specs.Laws.{HasEnd, ToldBefore}
use Rattle.arz_relation.proofs.Below.{Below, play_below}
use Rattle.arz_relation.proofs.Extends.{Extends, play_extends}
use Rattle.arz_relation.proofs.Scripts.{by_test, by_step, by_outcome, by_verdict, by_attempt, by_result}

module _ (May : Halt → Type 0) where
  -- the play ends everything only as it may
  abbrev pub Allowed : Play → Type 0
  Allowed Spent = Unit {0}
  Allowed Lost = Unit {0}
  Allowed (Out q s) = Unit {0}
  Allowed (Ends h s) = May h
  Allowed (Gives r s) = Unit {0}

  then_allowed : (p : Play) (f : Result → State → Play) → Allowed p → ((r : Result) (s : State) → Allowed (f r s)) → Allowed (then_play p f)
  then_allowed Spent f g h = tt
  then_allowed Lost f g h = tt
  then_allowed (Out q s) f g h = tt
  then_allowed (Ends c s) f g h = g
  then_allowed (Gives r s) f g h = h r s

  reply_allowed : (q : Request) (left : List Answer) (s : State) (f : Reply → State → Play) → ((y : Reply) (t : State) → Allowed (f y t)) → Allowed (take_reply q left s f)
  reply_allowed q [] s f h = tt
  reply_allowed q (Replied y ∷ left) s f h = h y _
  reply_allowed q (Served ∷ left) s f h = tt

  served_allowed : (n : ℕ) (left : List Answer) (s : State) (f : State → Play) → ((t : State) → Allowed (f t)) → Allowed (take_served n left s f)
  served_allowed n [] s f h = tt
  served_allowed n (Replied y ∷ left) s f h = tt
  served_allowed n (Served ∷ left) s f h = h _

  module _ {Goal : Type 0} (Fine : Goal → Type 0) where
    -- the script stops only as it may, if its cases do
    abbrev pub Steady : Script Goal → Type 0
    Steady (Give r) = Unit {0}
    Steady (Stops c) = May c
    Steady (Sends q k) = (y : Reply) (v : Seen) → Steady (k y v)
    Steady (Waits n k) = (v : Seen) → Steady (k v)
    Steady (Plays g k) = Fine g × ((r : Result) (v : Seen) → Steady (k r v))
    Steady (Records c k) = Steady k

    follow_allowed : (f : Goal → State → Play) → ((g : Goal) (s : State) → Fine g → Allowed (f g s)) → (c : Script Goal) (s : State) → Steady c → Allowed (follow f c s)
    follow_allowed f h (Give r) s st = tt
    follow_allowed f h (Stops c) s st = st
    follow_allowed f h (Sends q k) s st = reply_allowed q s.left s _ (λ y t. follow_allowed f h (k y (seen t)) t (st y (seen t)))
    follow_allowed f h (Waits n k) s st = served_allowed n s.left s _ (λ t. follow_allowed f h (k (seen t)) t (st (seen t)))
    follow_allowed f h (Plays g k) s st = then_allowed (f g s) _ (h g s st.0) (λ r t. follow_allowed f h (k r (seen t)) t (st.1 r (seen t)))
    follow_allowed f h (Records c k) s st = follow_allowed f h k (record s { done = with_completion c s.done }) st

    pub play_allowed : (cases : Goal → Seen → Script Goal) → ((g : Goal) (v : Seen) → Fine g → Steady (cases g v)) → (n : ℕ) (g : Goal) (s : State) → Fine g → Allowed (play cases n g s)
    play_allowed cases h zero g s fine = tt
    play_allowed cases h (suc n) g s fine = follow_allowed (play cases n) (play_allowed cases h n) (cases g (seen s)) (turn s) (h g (seen s) fine)

-- ---- what is found in a list

-- what holds of all holds of what a test finds
pub all_found : {X : Type 0} (P : X → Type 0) (test : X → Bool) (xs : List X) (x : X) → All P xs → find test xs ≡ Some x → P x
all_found P test [] x all e = absurd cc
all_found P test (y ∷ ys) x all e = by (test y) e (all_found P test ys x (All-tail P y ys all))
  where
    by : (t : Bool) → cond t (Some y) (find test ys) ≡ Some x → (find test ys ≡ Some x → P x) → P x
    by true e more = subst P (same_Some y x e) (All-head P y ys all)
    by false e more = more e

-- and of what stands at a place
pub all_at : {X : Type 0} (P : X → Type 0) (xs : List X) (i : ℕ) (x : X) → All P xs → slice_get xs i ≡ Some x → P x
all_at P [] i x all e = absurd cc
all_at P (y ∷ ys) zero x all e = subst P (same_Some y x e) (All-head P y ys all)
all_at P (y ∷ ys) (suc i) x all e = all_at P ys i x (All-tail P y ys all) e

there : (xs : List Json) (i : ℕ) → i < length xs → (x : Json) × (slice_get xs i ≡ Some x)
there [] i lt = absurd (omega (arith, lt))
there (x ∷ xs) zero lt = (x, refl)
there (x ∷ xs) (suc i) lt = there xs i (omega (arith, lt))

-- what holds of all actions holds of the one that is chosen
module _ (P : Json → Type 0) (told : Patterned) (found : Base → Option Json) (counts : List Count) where
  pub all_chosen : (actions : List Json) (a : Json) → All P actions → choice told found counts actions ≡ given (Some a) → P a
  all_chosen [] a all e = absurd cc
  all_chosen (x ∷ xs) a all e = by (is_used_up counts x) e (all_chosen xs a (All-tail P x xs all))
    where
      takes : Bool → Outcome (Option Json)
      takes holds = if holds then given (Some x) else choice told found counts xs

      by_holds : (o : Outcome Bool) → and_then takes o ≡ given (Some a) → (choice told found counts xs ≡ given (Some a) → P a) → P a
      by_holds (given true) e more = let same : x ≡ a = cc in subst P same (All-head P x xs all)
      by_holds (given false) e more = more e
      by_holds wide e more = absurd cc
      by_holds untold e more = absurd cc

      by : (used : Bool) → (if used then choice told found counts xs else and_then takes (all_hold told found (criteria_in x))) ≡ given (Some a) → (choice told found counts xs ≡ given (Some a) → P a) → P a
      by true e more = more e
      by false e more = by_holds (all_hold told found (criteria_in x)) e more

-- not for want of a step
abbrev Found : Halt → Type 0
Found NoStep = ⊥
Found Untold = Unit {0}
Found (Stuck cause at) = Unit {0}
Found (TooDeep at) = Unit {0}
Found (Budget limit) = Unit {0}

module _ (told : Patterned) (b : Bundle) (valid : IsValid b) where
  abbrev IsThere : List ℕ → Type 0
  IsThere w = has_workflow b w ≡ true

  abbrev HasStep : Run → ℕ → Type 0
  HasStep r i = (step : Json) × (slice_get (steps_of b r.workflow) i ≡ Some step)

  -- what each case names is there
  abbrev Fine : Case → Type 0
  Fine (Runs w inputs depth at) = IsThere w
  Fine (Depends r w ws) = IsThere r.workflow × IsThere w × All IsThere ws
  Fine (Enters r i counts) = HasStep r i
  Fine (Goes_on r i ok) = Unit {0}
  Fine (Ends_run r ok) = Unit {0}
  Fine (Goes_to r i) = HasStep r i
  Fine (Goes_over r w at) = IsThere w
  Fine (Retries r i at counts seconds before) = HasStep r i × (has_first b (steps_of b r.workflow) before ≡ true)
  Fine (Closes r ok) = Unit {0}

  abbrev Finds : Script Case → Type 0
  Finds c = Steady Found Fine c

  -- ---- what a valid bundle has

  runnable : (w : List ℕ) (workflow : Json) → workflow_named w b.arazzo ≡ Some workflow → IsRunnable b workflow
  runnable w workflow e = all_found (IsRunnable b) (is_workflow w) (workflows_in b.arazzo) workflow valid.workflows e

  leads_at : (workflow : Json) → IsRunnable b workflow → (ok : Bool) → Lead b (steps_under workflow) (actions_under b ok workflow)
  leads_at workflow run true = run.success
  leads_at workflow run false = run.failure

  leads_by : (steps : List Json) (step : Json) → IsLinked b steps step → (ok : Bool) → Lead b steps (step_actions b ok step)
  leads_by steps step link true = link.success
  leads_by steps step link false = link.failure

  -- a step that is there is linked, and so are the actions of its workflow
  linked : (w : List ℕ) (i : ℕ) (step : Json) (o : Option Json) → workflow_named w b.arazzo ≡ o → slice_get (steps_in o) i ≡ Some step → IsLinked b (steps_in o) step × ((ok : Bool) → Lead b (steps_in o) (actions_in b ok o))
  linked w i step None e at = absurd cc
  linked w i step (Some workflow) e at =
      let run = runnable w workflow e in
      (all_at (IsLinked b (steps_under workflow)) (steps_under workflow) i step run.steps at, leads_at workflow run)

  link_at : (r : Run) (i : ℕ) (step : Json) → slice_get (steps_of b r.workflow) i ≡ Some step → IsLinked b (steps_of b r.workflow) step
  link_at r i step at = (linked r.workflow i step (workflow_named r.workflow b.arazzo) refl at).0

  lead_at : (r : Run) (i : ℕ) (step : Json) (ok : Bool) → slice_get (steps_of b r.workflow) i ≡ Some step → Lead b (steps_of b r.workflow) (actions_at b r.workflow step ok)
  lead_at r i step ok at =
      let both = linked r.workflow i step (workflow_named r.workflow b.arazzo) refl at in
      let P : Json → Type 0 = λ a. has_target b (steps_of b r.workflow) (act_of a) ≡ true in
      All-append P (step_actions b ok step) _ (leads_by (steps_of b r.workflow) step both.0 ok) (All-filter _ P (actions_in b ok (workflow_named r.workflow b.arazzo)) (both.1 ok))

  first_in : (w : List ℕ) (o : Option Json) → workflow_named w b.arazzo ≡ o → is_some o ≡ true → (step : Json) × (slice_get (steps_in o) 0 ≡ Some step)
  first_in w None e is = absurd cc
  first_in w (Some workflow) e is = there (steps_under workflow) 0 (runnable w workflow e).some

  depends_there : (w : List ℕ) (o : Option Json) → workflow_named w b.arazzo ≡ o → is_some o ≡ true → All IsThere (depends_in o)
  depends_there w None e is = absurd cc
  depends_there w (Some workflow) e is = (runnable w workflow e).depends

  -- ---- the cases

  depend_finds : (r : Run) (ws : List (List ℕ)) → IsThere r.workflow → All IsThere ws → Finds (Plays (depend r ws) give)
  depend_finds r [] is all = (first_in r.workflow (workflow_named r.workflow b.arazzo) refl is, λ o v. tt)
  depend_finds r (w ∷ ws) is all = ((is, All-head IsThere w ws all, All-tail IsThere w ws all), λ o v. tt)

  dependency_finds : (r : Run) (ws : List (List ℕ)) (o : Result) (v : Seen) → IsThere r.workflow → All IsThere ws → Finds (after_dependency r ws o v)
  dependency_finds r ws (Completed outputs) v is all = depend_finds r ws is all
  dependency_finds r ws (Broke outputs) v is all = tt

  attempt_finds : (r : Run) (step : Json) (v : Seen) (k : Tried → Seen → Script Case) → has_called b (call_of step) ≡ true → ((own : Attempt) (ok : Bool) (u : Seen) → Finds (k (tried b r u.done step own ok) u)) → Finds (attempt told b r step v k)
  attempt_finds r step v k called h =
      by_attempt Finds told b r step v k (λ cause. tt) (λ e. tt)
      (λ q e. λ y u. by_verdict Finds told b r step (Exchange q y) (is_success y) k u (λ cause. tt) (λ f. tt) (λ ok. h (Exchange q y) ok u))
      (λ w inputs e. (subst (λ c. has_called b c ≡ true) e called, λ o u. by_verdict Finds told b r step (Inner (outputs_in o)) (is_completed o) k u (λ cause. tt) (λ f. tt) (λ ok. h (Inner (outputs_in o)) ok u)))

  act_fine : (i : ℕ) (at : Spot) (counts : List Count) (t : Tried) (name : List ℕ) (a : Act) → HasStep t.run i → has_target b (steps_of b t.run.workflow) a ≡ true → Fine (act_case b i at counts t name a)
  act_fine i at counts t name act.End is leads = tt
  act_fine i at counts t name (act.GoStep id) is leads = there (steps_of b t.run.workflow) (index_of id (steps_of b t.run.workflow)) (ltb-true _ _ leads)
  act_fine i at counts t name (act.GoFlow w) is leads = leads
  act_fine i at counts t name (act.Retry seconds limit before) is leads = (is, leads)

  chosen_fine : (i : ℕ) (at : Spot) (counts : List Count) (t : Tried) (chosen : Option Json) → HasStep t.run i → ((a : Json) → chosen ≡ Some a → has_target b (steps_of b t.run.workflow) (act_of a) ≡ true) → Fine (chosen_case b i at counts t chosen)
  chosen_fine i at counts t None is leads = tt
  chosen_fine i at counts t (Some a) is leads = act_fine i at counts t _ (act_of a) is (leads a refl)

  acts_finds : (i : ℕ) (step : Json) (counts : List Count) (t : Tried) (v : Seen) → slice_get (steps_of b t.run.workflow) i ≡ Some step → Finds (acts told b i step counts t v)
  acts_finds i step counts t v at =
      let actions = actions_at b t.run.workflow step t.ok in
      let says = spoken_of b t.run v.done t.own in
      by_outcome Finds (choice told says counts actions) (spot t.run step) (λ chosen. Plays (chosen_case b i (spot t.run step) counts t chosen) give) (λ cause. tt) (λ e. tt) (λ chosen e.
      (chosen_fine i (spot t.run step) counts t chosen (step, at) (λ a is. all_chosen (λ x. has_target b (steps_of b t.run.workflow) (act_of x) ≡ true) told says counts actions a (lead_at t.run i step t.ok at) (subst (λ o. choice told says counts actions ≡ given o) is e)), λ o u. tt))

  enters_finds : (r : Run) (i : ℕ) (counts : List Count) (v : Seen) (o : Option Json) → slice_get (steps_of b r.workflow) i ≡ o → is_some o ≡ true → Finds (with_step o (λ step. attempt told b r step v (acts told b i step counts)))
  enters_finds r i counts v None at is = absurd cc
  enters_finds r i counts v (Some step) at is = attempt_finds r step v (acts told b i step counts) (link_at r i step at).called (λ own ok u. acts_finds i step counts (tried b r u.done step own ok) u at)

  first_finds : (r : Run) (i : ℕ) (at : Spot) (counts : List Count) (before : First) (v : Seen) → HasStep r i → has_first b (steps_of b r.workflow) before ≡ true → Finds (tries_again told b r i at counts before v)
  first_finds r i at counts first.Nothing v is has = (is, λ o u. tt)
  first_finds r i at counts (first.Flow w) v is has = (has, λ o u. (is, λ p x. tt))
  first_finds r i at counts (first.Step id) v is has =
      let j = index_of id (steps_of b r.workflow) in
      let got = there (steps_of b r.workflow) j (ltb-true _ _ has) in
      by_step Finds (slice_get (steps_of b r.workflow) j) (λ step. attempt told b r step v (enters_again i counts)) (λ none. none_some got.0 none got.1) (λ step e.
      attempt_finds r step v (enters_again i counts) (link_at r j step e).called (λ own ok u. (is, λ o x. tt)))
    where
      none_some : {o : Option Json} (x : Json) → o ≡ None → o ≡ Some x → ⊥
      none_some x e f = absurd cc

  next_finds : (r : Run) (i : ℕ) (o : Option Json) → slice_get (steps_of b r.workflow) i ≡ o → Finds (Plays (next_step r i o) give)
  next_finds r i None e = (tt, λ o v. tt)
  next_finds r i (Some step) e = ((step, e), λ o v. tt)

  got_some : (o : Option Json) (x : Json) → o ≡ Some x → is_some o ≡ true
  got_some o x e = rw e refl

  script_finds : (g : Case) (v : Seen) → Fine g → Finds (script told b g v)
  unfolding script
  script_finds (Runs w inputs depth at) v is =
      let ws = depends_of b w in
      let goes = depend_finds (begun w inputs depth) ws is (depends_there w (workflow_named w b.arazzo) refl is) in
      by_test Finds (depth == deepest + 1) (Stops (TooDeep at)) (Plays (depend (begun w inputs depth) ws) (after_run w inputs)) (λ e. tt) (λ e. (goes.0, λ o u. by_result Finds w inputs o u (λ x. tt) (λ x. tt)))
  script_finds (Depends r w ws) v is =
      by_test Finds (is_recorded w v.done) (Plays (depend r ws) give) (Plays (Runs w r.inputs (r.depth + 1) (spot_before r)) (after_dependency r ws)) (λ e. depend_finds r ws is.0 is.2) (λ e. (is.1, λ o u. dependency_finds r ws o u is.0 is.2))
  script_finds (Enters r i counts) v is = enters_finds r i counts v (slice_get (steps_of b r.workflow) i) refl (got_some _ is.0 is.1)
  script_finds (Goes_on r i true) v is = next_finds r (i + 1) (slice_get (steps_of b r.workflow) (i + 1)) refl
  script_finds (Goes_on r i false) v is = (tt, λ o u. tt)
  script_finds (Ends_run r ok) v is = (tt, λ o u. tt)
  script_finds (Goes_to r i) v is = (is, λ o u. tt)
  script_finds (Goes_over r w at) v is = (is, λ o u. tt)
  script_finds (Retries r i at counts seconds before) v is =
      by_test Finds (seconds == 0 || b.skip_delay) (tries_again told b r i at counts before v) (Waits seconds (tries_again told b r i at counts before)) (λ e. first_finds r i at counts before v is.0 is.1) (λ e. λ u. first_finds r i at counts before u is.0 is.1)
  script_finds (Closes r ok) v is = tt

ended : (w : List ℕ) (p : Play) → Allowed Found p → TookAll p → is_told p ≡ true → (e : End) × (end_of w p ≡ Some e)
ended w Spent f t is = absurd t
ended w Lost f t is = absurd t
ended w (Out q s) f t is = (_, refl)
ended w (Ends NoStep s) f t is = absurd f
ended w (Ends Untold s) f t is = absurd cc
ended w (Ends (Stuck cause at) s) f t is = (_, refl)
ended w (Ends (TooDeep at) s) f t is = (_, refl)
ended w (Ends (Budget limit) s) f t is = (_, refl)
ended w (Gives o s) f t is = (_, refl)

-- over answers that fit, a valid bundle has an end, where all that it needs of patterns is told
pub has_end : (told : Patterned) → HasEnd told
has_end told b r valid fit is =
    ended b.workflow (whole told b r)
    (play_allowed Found (Fine told b valid) (script told b) (script_finds told b valid) (fuel b (length r)) (Runs b.workflow b.inputs 1 (spot_of b.workflow)) (start r) valid.starts)
    fit is

-- ---- what is told

told_below : (p q : Play) → Below p q → is_told q ≡ true → is_told p ≡ true
told_below Spent q h is = refl
told_below Lost q h is = refl
told_below (Out a s) q h is = refl
told_below (Ends c s) q h is = sym (ap is_told h) ∙ is
told_below (Gives r s) q h is = refl

-- a play that needed no untold pattern over more answers needed none over fewer
told_extended : (xs : List Answer) (p p' : Play) → Extends xs p p' → is_told p' ≡ true → is_told p ≡ true
told_extended xs Spent p' h is = refl
told_extended xs Lost p' h is = refl
told_extended xs (Out q s) p' h is = refl
told_extended xs (Ends NoStep s) p' h is = refl
told_extended xs (Ends Untold s) p' h is = sym (ap is_told h) ∙ is
told_extended xs (Ends (Stuck cause at) s) p' h is = refl
told_extended xs (Ends (TooDeep at) s) p' h is = refl
told_extended xs (Ends (Budget limit) s) p' h is = refl
told_extended xs (Gives o s) p' h is = refl

times_le : (m n k : ℕ) → m ≤ n → (m + 1) * k ≤ (n + 1) * k
times_le m n k le = let e : n ≡ m + (n - m) = omega arith in rw e (omega arith)

-- what is told over more answers was told over fewer
pub told_before : (told : Patterned) → ToldBefore told
told_before told b r more is =
    let n = fuel b (length (r ++ more)) in
    let n_le : fuel b (length r) ≤ n = times_le (length r) (length (r ++ more)) (pace b) (omega (arith, length-append r more)) in
    told_below (whole told b r) (execution told b r n) (play_below (script told b) (fuel b (length r)) n _ (start r) n_le) (told_extended more (execution told b r n) (whole told b (r ++ more)) (play_extends (script told b) more n _ (start r)) is)
