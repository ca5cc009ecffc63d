-- Where enough is told of each criterion, no play needs a pattern of which nothing is told; so where each is a simple one.
use Rattle.std.proofs.Common.{◌≡◌, ℕ, ◌+◌, ◌==◌, ◌||◌, ◌++◌, not, if◌then◌else◌, Bool, true, false, List, [], ◌∷◌, All, length, codes, Option, Some, None, refl}
use Rattle.std.specs.Prelude.{slice_get}
use Rattle.std.specs.List.{flat_map, list_any}
use Rattle.std.proofs.lemmas.List.Elements.{All-nil, All-cons, All-head, All-tail, All-append, All-filter}
use Rattle.arz_json.specs.declared.Json.{Json}
use Rattle.arz_expr.specs.declared.syntax.Base.{Base}
use Rattle.arz_description.specs.declared.parts.First.{First}
use Rattle.arz_description.specs.declared.parts.First.TheVariants as first
use Rattle.arz_path.specs.Outcome.{Outcome, given, wide, untold, and_then}
use Rattle.arz_path.specs.Selected.{IsTold}
use Rattle.arz_cond.specs.Criteria.{criterion_at}
use Rattle.arz_cond.specs.Outcomes.{is_kind, outcome}
use Rattle.arz_cond.proofs.Functions.{simple_is_given}
use Rattle.arz_scope.specs.Scopes.{Attempt, Exchange, Inner}
use Rattle.arz_flow.specs.declared.answers.Answer.{Answer}
use Rattle.arz_flow.specs.declared.answers.Spot.{Spot}
use Rattle.arz_flow.specs.declared.bundle.Bundle.{Bundle}
use Rattle.arz_relation.specs.declared.retries.Count.{Count}
use Rattle.arz_relation.specs.Documents.{workflows_in, is_workflow, workflow_named, steps_under, steps_in, steps_of, index_of, depends_of, criteria_of, criteria_in, step_actions, actions_under, actions_in, actions_at, criteria_of_actions, criteria_of_step, criteria_of_workflow, all_criteria}
use Rattle.arz_relation.specs.Retries.{is_used_up}
use Rattle.arz_relation.specs.Verdicts.{Patterned, is_success, all_hold, verdict, is_patterned}
use Rattle.arz_relation.specs.Play.{Result, Completed, Broke, Halt, NoStep, Untold, Stuck, TooDeep, Budget, Seen, Play, Spent, Lost, Out, Ends, Gives, Script, Stops, Waits, Plays}
use Rattle.arz_relation.specs.Cases.{Run, Case, Runs, Depends, Enters, Goes_on, Ends_run, Goes_to, Goes_over, Retries, Closes, deepest, give, begun, spoken_of, spot, spot_before, Tried, tried, outputs_in, is_completed, judged, attempt, choice, chosen_case, acts, enters_again, tries_again, depend, after_dependency, after_run, is_recorded, script}
use Rattle.arz_relation.specs.Executions.{whole, start, spot_of, fuel, is_told}
use Rattle.arz_relation.specs.Laws.{NeedsNoPattern}
use Rattle.arz_relation.proofs.Scripts.{by_test, by_step, by_outcome, by_verdict, by_attempt, by_result}
use Rattle.arz_relation.proofs.Steady.{Allowed, Steady, play_allowed, all_found, all_at}

-- what holds of all of two lists, and of all of each list
both_all : (P : Json → Type 0) (xs ys : List Json) → All P (xs ++ ys) → All P xs × All P ys
both_all P [] ys all = (All-nil P, all)
both_all P (x ∷ xs) ys all =
    let rest = both_all P xs ys (All-tail P x (xs ++ ys) all) in
    (All-cons P x xs (All-head P x (xs ++ ys) all) rest.0, rest.1)

each_all : (P : Json → Type 0) (f : Json → List Json) (js : List Json) → All P (flat_map f js) → All (λ j. All P (f j)) js
each_all P f [] all = All-nil (λ j. All P (f j))
each_all P f (j ∷ js) all =
    let both = both_all P (f j) (flat_map f js) all in
    All-cons (λ j. All P (f j)) j js both.0 (each_all P f js both.1)

then_told : {X Y : Type 0} (f : X → Outcome Y) (o : Outcome X) → IsTold o → ((x : X) → IsTold (f x)) → IsTold (and_then f o)
then_told f (given x) h k = k x
then_told f wide h k = tt
then_told f untold h k = absurd h

never_untold : {X : Type 0} (o : Outcome X) → IsTold o → o ≡ untold → ⊥
never_untold (given x) h e = absurd cc
never_untold wide h e = absurd cc
never_untold untold h e = h

-- not for want of a pattern
abbrev Known : Halt → Type 0
Known NoStep = Unit {0}
Known Untold = ⊥
Known (Stuck cause at) = Unit {0}
Known (TooDeep at) = Unit {0}
Known (Budget limit) = Unit {0}

-- each case is met
abbrev Any : Case → Type 0
Any g = Unit {0}

known_told : (p : Play) → Allowed Known p → is_told p ≡ true
known_told Spent k = refl
known_told Lost k = refl
known_told (Out q s) k = refl
known_told (Ends NoStep s) k = refl
known_told (Ends Untold s) k = absurd k
known_told (Ends (Stuck cause at) s) k = refl
known_told (Ends (TooDeep at) s) k = refl
known_told (Ends (Budget limit) s) k = refl
known_told (Gives o s) k = refl

-- Easy: the criteria of which enough is told, whatever their expressions speak of
module _ (told : Patterned) (Easy : Json → Type 0) (easy : (c : Json) (found : Base → Option Json) → Easy c → IsTold (outcome told found (criterion_at c))) where
  -- the criteria of all actions are easy
  abbrev Acts : List Json → Type 0
  Acts actions = All (λ a. All Easy (criteria_in a)) actions

  module _ (found : Base → Option Json) where
    hold_told : (cs : List Json) → All Easy cs → IsTold (all_hold told found cs)
    hold_told [] all = tt
    hold_told (c ∷ cs) all =
        then_told (λ holds. if holds then all_hold told found cs else given false) (outcome told found (criterion_at c)) (easy c found (All-head Easy c cs all)) (by_first (hold_told cs (All-tail Easy c cs all)))
      where
        by_first : IsTold (all_hold told found cs) → (holds : Bool) → IsTold (if holds then all_hold told found cs else given false)
        by_first rest true = rest
        by_first rest false = tt

    verdict_told : (plain : Bool) (cs : List Json) → All Easy cs → IsTold (verdict told found plain cs)
    verdict_told plain [] all = tt
    verdict_told plain (c ∷ cs) all = hold_told (c ∷ cs) all

    choice_told : (counts : List Count) (actions : List Json) → Acts actions → IsTold (choice told found counts actions)
    choice_told counts [] all = tt
    choice_told counts (a ∷ rest) all =
        by (is_used_up counts a)
        (choice_told counts rest (All-tail (λ a. All Easy (criteria_in a)) a rest all))
        (hold_told (criteria_in a) (All-head (λ a. All Easy (criteria_in a)) a rest all))
      where
        takes : Bool → Outcome (Option Json)
        takes holds = if holds then given (Some a) else choice told found counts rest

        by_holds : IsTold (choice told found counts rest) → (holds : Bool) → IsTold (takes holds)
        by_holds later true = tt
        by_holds later false = later

        by : (used : Bool) → IsTold (choice told found counts rest) → IsTold (all_hold told found (criteria_in a)) → IsTold (if used then choice told found counts rest else and_then takes (all_hold told found (criteria_in a)))
        by true later own = later
        by false later own = then_told takes (all_hold told found (criteria_in a)) own (by_holds later)

  module _ (b : Bundle) (all : All Easy (all_criteria b)) where
    abbrev Needless : Script Case → Type 0
    Needless c = Steady Known Any c

    -- ---- the criteria of a step that is there, and of the actions that follow it

    easy_workflow : (w : List ℕ) (workflow : Json) → workflow_named w b.arazzo ≡ Some workflow → All Easy (criteria_of_workflow b workflow)
    easy_workflow w workflow e = all_found (λ j. All Easy (criteria_of_workflow b j)) (is_workflow w) (workflows_in b.arazzo) workflow (each_all Easy (criteria_of_workflow b) (workflows_in b.arazzo) all) e

    by_ok : (ok : Bool) (f : Bool → List Json) → All Easy (criteria_of_actions (f true) ++ criteria_of_actions (f false)) → Acts (f ok)
    by_ok true f both = each_all Easy criteria_in (f true) (both_all Easy (criteria_of_actions (f true)) (criteria_of_actions (f false)) both).0
    by_ok false f both = each_all Easy criteria_in (f false) (both_all Easy (criteria_of_actions (f true)) (criteria_of_actions (f false)) both).1

    easy_in : (w : List ℕ) (i : ℕ) (step : Json) (o : Option Json) → workflow_named w b.arazzo ≡ o → slice_get (steps_in o) i ≡ Some step → All Easy (criteria_of_step b step) × ((ok : Bool) → Acts (actions_in b ok o))
    easy_in w i step None e at = absurd cc
    easy_in w i step (Some workflow) e at =
        let both = both_all Easy (flat_map (criteria_of_step b) (steps_under workflow)) _ (easy_workflow w workflow e) in
        (all_at (λ j. All Easy (criteria_of_step b j)) (steps_under workflow) i step (each_all Easy (criteria_of_step b) (steps_under workflow) both.0) at, λ ok. by_ok ok (λ k. actions_under b k workflow) both.1)

    -- a step of the workflow stands there
    abbrev IsStep : Run → ℕ → Json → Type 0
    IsStep r i step = slice_get (steps_of b r.workflow) i ≡ Some step

    easy_step : (r : Run) (i : ℕ) (step : Json) → IsStep r i step → All Easy (criteria_of step)
    easy_step r i step at = (both_all Easy (criteria_of step) _ (easy_in r.workflow i step (workflow_named r.workflow b.arazzo) refl at).0).0

    easy_acts : (r : Run) (i : ℕ) (step : Json) (ok : Bool) → IsStep r i step → Acts (actions_at b r.workflow step ok)
    easy_acts r i step ok at =
        let both = easy_in r.workflow i step (workflow_named r.workflow b.arazzo) refl at in
        let own = by_ok ok (λ k. step_actions b k step) (both_all Easy (criteria_of step) _ both.0).1 in
        let P : Json → Type 0 = λ a. All Easy (criteria_in a) in
        All-append P (step_actions b ok step) _ own (All-filter _ P (actions_in b ok (workflow_named r.workflow b.arazzo)) (both.1 ok))

    -- ---- the cases

    attempt_needless : (r : Run) (i : ℕ) (step : Json) (v : Seen) (k : Tried → Seen → Script Case) → IsStep r i step → ((own : Attempt) (ok : Bool) (u : Seen) → Needless (k (tried b r u.done step own ok) u)) → Needless (attempt told b r step v k)
    attempt_needless r i step v k at h =
        by_attempt Needless told b r step v k (λ cause. tt) (λ e. tt)
        (λ q e. λ y u. by_own (Exchange q y) (is_success y) u)
        (λ w inputs e. (tt, λ o u. by_own (Inner (outputs_in o)) (is_completed o) u))
      where
        by_own : (own : Attempt) (plain : Bool) (u : Seen) → Needless (judged told b r step own plain k u)
        by_own own plain u = by_verdict Needless told b r step own plain k u (λ cause. tt) (never_untold _ (verdict_told (spoken_of b r u.done own) plain (criteria_of step) (easy_step r i step at))) (λ ok. h own ok u)

    acts_needless : (i : ℕ) (step : Json) (counts : List Count) (t : Tried) (v : Seen) → IsStep t.run i step → Needless (acts told b i step counts t v)
    acts_needless i step counts t v at =
        let actions = actions_at b t.run.workflow step t.ok in
        let says = spoken_of b t.run v.done t.own in
        by_outcome Needless (choice told says counts actions) (spot t.run step) (λ chosen. Plays (chosen_case b i (spot t.run step) counts t chosen) give) (λ cause. tt) (never_untold _ (choice_told says counts actions (easy_acts t.run i step t.ok at))) (λ chosen e. (tt, λ o u. tt))

    first_needless : (r : Run) (i : ℕ) (at : Spot) (counts : List Count) (before : First) (v : Seen) → Needless (tries_again told b r i at counts before v)
    first_needless r i at counts first.Nothing v = (tt, λ o u. tt)
    first_needless r i at counts (first.Flow w) v = (tt, λ o u. (tt, λ p x. tt))
    first_needless r i at counts (first.Step id) v =
        let j = index_of id (steps_of b r.workflow) in
        by_step Needless (slice_get (steps_of b r.workflow) j) (λ step. attempt told b r step v (enters_again i counts)) (λ e. tt) (λ step e.
        attempt_needless r j step v (enters_again i counts) e (λ own ok u. (tt, λ o x. tt)))

    dependency_needless : (r : Run) (ws : List (List ℕ)) (o : Result) (v : Seen) → Needless (after_dependency r ws o v)
    dependency_needless r ws (Completed outputs) v = (tt, λ o u. tt)
    dependency_needless r ws (Broke outputs) v = tt

    script_needless : (g : Case) (v : Seen) → Any g → Needless (script told b g v)
    unfolding script
    script_needless (Runs w inputs depth at) v is =
        by_test Needless (depth == deepest + 1) (Stops (TooDeep at)) (Plays (depend (begun w inputs depth) (depends_of b w)) (after_run w inputs)) (λ e. tt) (λ e. (tt, λ o u. by_result Needless w inputs o u (λ x. tt) (λ x. tt)))
    script_needless (Depends r w ws) v is =
        by_test Needless (is_recorded w v.done) (Plays (depend r ws) give) (Plays (Runs w r.inputs (r.depth + 1) (spot_before r)) (after_dependency r ws)) (λ e. (tt, λ o u. tt)) (λ e. (tt, λ o u. dependency_needless r ws o u))
    script_needless (Enters r i counts) v is =
        by_step Needless (slice_get (steps_of b r.workflow) i) (λ step. attempt told b r step v (acts told b i step counts)) (λ e. tt) (λ step e.
        attempt_needless r i step v (acts told b i step counts) e (λ own ok u. acts_needless i step counts (tried b r u.done step own ok) u e))
    script_needless (Goes_on r i true) v is = (tt, λ o u. tt)
    script_needless (Goes_on r i false) v is = (tt, λ o u. tt)
    script_needless (Ends_run r ok) v is = (tt, λ o u. tt)
    script_needless (Goes_to r i) v is = (tt, λ o u. tt)
    script_needless (Goes_over r w at) v is = (tt, λ o u. tt)
    script_needless (Retries r i at counts seconds before) v is =
        by_test Needless (seconds == 0 || b.skip_delay) (tries_again told b r i at counts before v) (Waits seconds (tries_again told b r i at counts before)) (λ e. first_needless r i at counts before v) (λ e. λ u. first_needless r i at counts before u)
    script_needless (Closes r ok) v is = tt

    -- so no play needs a pattern of which nothing is told
    pub none_needed : (r : List Answer) → is_told (whole told b r) ≡ true
    none_needed r =
        known_told (whole told b r)
        (play_allowed Known Any (script told b) script_needless (fuel b (length r)) (Runs b.workflow b.inputs 1 (spot_of b.workflow)) (start r) tt)

-- ---- simple criteria

neither : (x y : Bool) → (x || y) ≡ false → (x ≡ false) × (y ≡ false)
neither false y e = (refl, e)
neither true y e = absurd cc

is_so : (x : Bool) → not x ≡ false → x ≡ true
is_so true e = refl
is_so false e = absurd cc

abbrev IsSimple : Json → Type 0
IsSimple c = is_patterned c ≡ false

all_simple : (cs : List Json) → list_any is_patterned cs ≡ false → All IsSimple cs
all_simple [] none = All-nil IsSimple
all_simple (c ∷ cs) none = let parts = neither (is_patterned c) (list_any is_patterned cs) none in All-cons IsSimple c cs parts.0 (all_simple cs parts.1)

simple_told : (told : Patterned) (c : Json) (found : Base → Option Json) → IsSimple c → IsTold (outcome told found (criterion_at c))
simple_told told c found simple = rw (simple_is_given told found (criterion_at c) (is_so (is_kind (codes "simple") (criterion_at c)) simple)).1 tt

-- where each criterion is a simple one, no pattern is needed
pub needs_no_pattern : (told : Patterned) → NeedsNoPattern told
needs_no_pattern told b r none = none_needed told IsSimple (simple_told told) b (all_simple (all_criteria b) none) r
