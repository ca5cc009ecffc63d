-- The steps of a plan, and criteria that are tried there.
use Rattle.std.proofs.Common.{◌≡◌, ◌≢◌, ℕ, ◌<◌, ◌≤◌, ◌==◌, ◌&&◌, ◌||◌, List, [], ◌∷◌, ◌++◌, All, map, filter, length, get_or, cond, Option, Some, None, option_map, Result, Ok, Err, IfOk, IfSome, Bor, Bool, true, false, ◌⊎◌, inl, inr, refl, sym, ap, ap₂, subst, ◌∙◌, arith}
use Rattle.std.specs.Prelude.{slice_get, find, not}
use Rattle.std.specs.List.{list_any, list_all, flat_map, HoldsAt}
use Rattle.std.specs.Option.{is_none, option_to_list, option_copied, MatchOption}
use Rattle.std.proofs.lemmas.List.Concat.{flat_map-cons}
use Rattle.std.proofs.lemmas.List.Elements.{All-nil, All-cons, All-get_or, All-weaker}
use Rattle.std.proofs.lemmas.List.Folds.{list_any_at, list_any-append}
use Rattle.std.proofs.lemmas.Option.{slice_get-map, slice_get_within, slice_get_past, slice_get_read, get_or_from_slice_get}
use Rattle.arz_json.specs.Tree.{IsWithin, IsWellFormed}
use Rattle.arz_json.specs.declared.Json.{Json}
use Rattle.arz_json.proofs.Parts.{IsWithin-more}
use Rattle.arz_expr.specs.declared.syntax.Base.{Base}
use Rattle.arz_path.specs.Outcome.{given, and_then}
use Rattle.arz_cond.specs.Criteria.{Criterion, IsRead, criterion_at}
use Rattle.arz_cond.specs.Outcomes.{Patterned, outcome, can_be_read, fault_in}
use Rattle.arz_cond.proofs.Functions.{readable_kind, reads_unless_fault}
use Rattle.arz_actions.specs.Ready.{ready_of}
use Rattle.arz_actions.specs.Tests.{all_met, any_matched}
use Rattle.arz_flow.specs.declared.bundle.Bundle.{Bundle}
use Rattle.arz_relation.specs.Documents.{workflows_in, is_workflow, is_same_action, workflow_named, steps_in, steps_of, steps_under, criteria_of, step_actions, actions_under, criteria_in, criteria_of_actions, criteria_of_step, criteria_of_workflow}
use Rattle.arz_relation.specs.Verdicts.{all_hold, verdict, is_patterned, asks_patterns}
use Rattle.arz_relation.proofs.Within.{workflow-within}
use Rattle.arz_runs.specs.Choosing.{any_tried}
use Rattle.arz_runs.specs.Planned.{IsPlan, IsPlanned, IsStepAt, raw_actions, steps_in_plan}
use Rattle.arz_runs.specs.Readable.{is_readable, are_readable}
use Rattle.arz_runs.specs.declared.plans.Plan.{Plan}
use Rattle.arz_runs.specs.declared.plans.Planned.{Planned}

-- ---- the workflow of a plan, and its steps

one_there : (o : Option Json) (w : Json) → option_to_list o ≡ w ∷ [] → o ≡ Some w
one_there None w h = absurd (cc)
one_there (Some x) w h = cc

pub plan_named : (b : Bundle) (id : List ℕ) (p : Plan) → IsPlan b id p → workflow_named id b.arazzo ≡ Some p.workflow.now
plan_named b id p plan = one_there (workflow_named id b.arazzo) p.workflow.now plan.named

pub workflow_sound : (b : Bundle) (id : List ℕ) (p : Plan) → IsPlan b id p → IsWithin 127 b.arazzo → IsWellFormed p.workflow.now
workflow_sound b id p plan w = IsWithin-more 127 130 p.workflow.now (omega arith) (workflow-within 127 id b.arazzo p.workflow.now (plan_named b id p plan) w)

abbrev step_in : Planned → Json
step_in s = s.step.now

module _ (b : Bundle) (id : List ℕ) (p : Plan) (plan : IsPlan b id p) (i : ℕ) where
  steps_are : steps_of b id ≡ steps_in_plan p
  steps_are = ap steps_in (plan_named b id p plan) ∙ sym plan.steps

  in_plan : (o : Option Planned) → o ≡ slice_get p.steps.items i → slice_get (steps_in_plan p) i ≡ option_map step_in o
  in_plan o e = slice_get-map step_in p.steps.items i ∙ ap (option_map step_in) (sym e)

  -- what is found at an index
  pub step_found : (o : Option Planned) → o ≡ slice_get p.steps.items i → IsStepAt b id i o
  step_found None e = ap (λ l. slice_get l i) steps_are ∙ in_plan None e
  step_found (Some q) e =
      let w = p.workflow.now in (
        ap (λ l. slice_get l i) steps_are ∙ in_plan (Some q) e,
        record {
          workflow = w;
          named = plan_named b id p plan;
          planned = subst (IsPlanned b w) (get_or_from_slice_get p.steps.items i q q (sym e)) (All-get_or (IsPlanned b w) p.steps.items i q (slice_get_within p.steps.items i q (sym e)) plan.each);
          place = i;
          at = ap (λ l. slice_get l i) (sym plan.steps) ∙ in_plan (Some q) e;
        },
      )

-- what is got of a slice
pub got : {X : Type 0} (xs : List X) (i : ℕ) (o : Option (Bor X)) → MatchOption o (length xs ≤ i) (λ x. (i < length xs) × HoldsAt (λ y. x.now ≡ y) xs i) → IfSome o (λ x. x.now ≡ get_or xs i x.now) → option_copied o ≡ slice_get xs i
got xs i None past is = sym (slice_get_past xs i past)
got xs i (Some x) there is = sym (slice_get_read xs (length xs) i x.now refl there.0 is)

-- what holds under a condition that is met
pub given_if : {X E A : Type 0} (P : X → Type 0) (r : Result X E) → IfOk r (λ x. A → P x) → A → IfOk r P
given_if P (Ok x) h a = h a
given_if P (Err e) h a = h

-- ---- criteria that can be read

and_both : (a b : Bool) → (a && b) ≡ true → (a ≡ true) × (b ≡ true)
and_both true b h = (refl, h)
and_both false b h = absurd (cc)

none_is : {X : Type 0} (o : Option X) → is_none o ≡ true → o ≡ None
none_is None h = refl
none_is (Some x) h = absurd (cc)

readable_is_read : (c : Criterion) → is_readable c ≡ true → IsRead c
readable_is_read c h =
    let both = and_both (can_be_read c) (is_none (fault_in c)) h in
    (reads_unless_fault c (readable_kind c both.0)).1 (none_is (fault_in c) both.1)

pub all_true : {X : Type 0} (p : X → Bool) (xs : List X) → list_all p xs ≡ true → All (λ x. p x ≡ true) xs
all_true p [] h = All-nil (λ x. p x ≡ true)
all_true p (x ∷ xs) h = let both = and_both (p x) (list_all p xs) h in All-cons (λ x. p x ≡ true) x xs both.0 (all_true p xs both.1)

pub all_read : (cs : List Criterion) → are_readable cs ≡ true → All IsRead cs
all_read cs h = All-weaker (λ c. is_readable c ≡ true) IsRead readable_is_read cs (all_true is_readable cs h)

-- what is tested isn't empty
pub not_empty : {X : Type 0} (xs : List X) (b : Bool) → b ≡ (length xs == 0) → b ≡ false → xs ≢ []
not_empty [] b e h k = let none : true ≡ false = sym e ∙ h in absurd (cc)
not_empty (x ∷ xs) b e h k = absurd (cc)

-- ---- the criteria as they are read say what those of the description say

pub all_same : (told : Patterned) (found : Base → Option Json) (cs : List Json) → all_met told found (map criterion_at cs) ≡ all_hold told found cs
all_same told found [] = refl
all_same told found (c ∷ cs) =
    ap (λ o. and_then (λ holds. cond holds o (given false)) (outcome told found (criterion_at c))) (all_same told found cs)

pub verdict_same : (told : Patterned) (found : Base → Option Json) (plain : Bool) (tests : List Criterion) (raw : List Json) → tests ≡ map criterion_at raw → tests ≢ [] → all_met told found tests ≡ verdict told found plain raw
verdict_same told found plain tests [] e n = absurd (n e)
verdict_same told found plain tests (c ∷ cs) e n = ap (all_met told found) e ∙ all_same told found (c ∷ cs)

-- ---- criteria of other types than `simple`

or_left : (a b : Bool) → a ≡ true → (a || b) ≡ true
or_left true b h = refl
or_left false b h = absurd (cc)

or_right : (a b : Bool) → b ≡ true → (a || b) ≡ true
or_right true b h = refl
or_right false b h = h

or_either : (a b : Bool) → (a || b) ≡ true → (a ≡ true) ⊎ (b ≡ true)
or_either true b h = inl refl
or_either false b h = inr h

any_front : {X : Type 0} (p : X → Bool) (xs ys : List X) → list_any p xs ≡ true → list_any p (xs ++ ys) ≡ true
any_front p xs ys h = list_any-append p xs ys ∙ or_left (list_any p xs) (list_any p ys) h

any_back : {X : Type 0} (p : X → Bool) (xs ys : List X) → list_any p ys ≡ true → list_any p (xs ++ ys) ≡ true
any_back p xs ys h = list_any-append p xs ys ∙ or_right (list_any p xs) (list_any p ys) h

any_flat : {X A : Type 0} (p : A → Bool) (f : X → List A) (xs : List X) → list_any p (flat_map f xs) ≡ list_any (λ x. list_any p (f x)) xs
any_flat p f [] = refl
any_flat p f (x ∷ xs) = ap (list_any p) (flat_map-cons f x xs) ∙ list_any-append p (f x) (flat_map f xs) ∙ ap (λ b. list_any p (f x) || b) (any_flat p f xs)

any_kept : {X : Type 0} (p keep : X → Bool) (xs : List X) → list_any p (filter keep xs) ≡ true → list_any p xs ≡ true
any_kept p keep [] h = h
any_kept {X = X} p keep (x ∷ xs) h = by_test (any_kept p keep xs) (keep x) h
  where
    by_either : (list_any p (filter keep xs) ≡ true → list_any p xs ≡ true) → (p x ≡ true) ⊎ (list_any p (filter keep xs) ≡ true) → (p x || list_any p xs) ≡ true
    by_either more (inl l) = or_left (p x) (list_any p xs) l
    by_either more (inr r) = or_right (p x) (list_any p xs) (more r)

    by_test : (list_any p (filter keep xs) ≡ true → list_any p xs ≡ true) → (b : Bool) → list_any p (cond b (x ∷ filter keep xs) (filter keep xs)) ≡ true → (p x || list_any p xs) ≡ true
    by_test more true k = by_either more (or_either (p x) (list_any p (filter keep xs)) k)
    by_test more false k = or_right (p x) (list_any p xs) (more k)

any_at : {X : Type 0} (p : X → Bool) (xs : List X) (i : ℕ) (x : X) → slice_get xs i ≡ Some x → p x ≡ true → list_any p xs ≡ true
any_at p xs i x at h = list_any_at p xs i x (slice_get_within xs i x at) (ap p (get_or_from_slice_get xs i x x at) ∙ h)

any_found : {X : Type 0} (test p : X → Bool) (xs : List X) (x : X) → find test xs ≡ Some x → p x ≡ true → list_any p xs ≡ true
any_found test p [] x e h = absurd (cc)
any_found {X = X} test p (y ∷ ys) x e h = by_test (λ k. any_found test p ys x k h) (test y) e
  where
    by_test : (find test ys ≡ Some x → list_any p ys ≡ true) → (b : Bool) → cond b (Some y) (find test ys) ≡ Some x → (p y || list_any p ys) ≡ true
    by_test more true k = let same : y ≡ x = cc in or_left (p y) (list_any p ys) (ap p same ∙ h)
    by_test more false k = or_right (p y) (list_any p ys) (more k)

matched_same : (cs : List Json) → any_matched (map criterion_at cs) ≡ list_any is_patterned cs
matched_same [] = refl
matched_same (c ∷ cs) = ap (λ b. is_patterned c || b) (matched_same cs)

-- whether any criterion of an action is
abbrev asks_in : Json → Bool
asks_in a = list_any is_patterned (criteria_in a)

tried_same : (raw : List Json) → any_tried (map ready_of raw) ≡ list_any asks_in raw
tried_same [] = refl
tried_same (a ∷ raw) = ap₂ (λ x y. x || y) (matched_same (criteria_in a)) (tried_same raw)

module _ (b : Bundle) (id : List ℕ) (w step : Json) (place : ℕ) (named : workflow_named id b.arazzo ≡ Some w) (at : slice_get (steps_under w) place ≡ Some step) where
  of_workflow : list_any is_patterned (criteria_of_workflow b w) ≡ true → asks_patterns b ≡ true
  of_workflow h = any_flat is_patterned (criteria_of_workflow b) (workflows_in b.arazzo) ∙ any_found (is_workflow id) (λ k. list_any is_patterned (criteria_of_workflow b k)) (workflows_in b.arazzo) w named h

  of_step : list_any is_patterned (criteria_of_step b step) ≡ true → asks_patterns b ≡ true
  of_step h =
      of_workflow (any_front is_patterned (flat_map (criteria_of_step b) (steps_under w)) (criteria_of_actions (actions_under b true w) ++ criteria_of_actions (actions_under b false w))
      (any_flat is_patterned (criteria_of_step b) (steps_under w) ∙ any_at (λ s. list_any is_patterned (criteria_of_step b s)) (steps_under w) place step at h))

  of_actions : (ok : Bool) → list_any is_patterned (criteria_of_actions (actions_under b ok w)) ≡ true → asks_patterns b ≡ true
  of_actions true h =
      of_workflow (any_back is_patterned (flat_map (criteria_of_step b) (steps_under w)) _
      (any_front is_patterned (criteria_of_actions (actions_under b true w)) (criteria_of_actions (actions_under b false w)) h))
  of_actions false h =
      of_workflow (any_back is_patterned (flat_map (criteria_of_step b) (steps_under w)) _
      (any_back is_patterned (criteria_of_actions (actions_under b true w)) (criteria_of_actions (actions_under b false w)) h))

  of_own : (ok : Bool) → list_any is_patterned (criteria_of_actions (step_actions b ok step)) ≡ true → asks_patterns b ≡ true
  of_own true h =
      of_step (any_back is_patterned (criteria_of step) _
      (any_front is_patterned (criteria_of_actions (step_actions b true step)) (criteria_of_actions (step_actions b false step)) h))
  of_own false h =
      of_step (any_back is_patterned (criteria_of step) _
      (any_back is_patterned (criteria_of_actions (step_actions b true step)) (criteria_of_actions (step_actions b false step)) h))

  -- of the step's own criteria one is
  pub asks_by_tests : (tests : List Criterion) → tests ≡ map criterion_at (criteria_of step) → any_matched tests ≡ true → asks_patterns b ≡ true
  asks_by_tests tests e h =
      of_step (any_front is_patterned (criteria_of step) (criteria_of_actions (step_actions b true step) ++ criteria_of_actions (step_actions b false step))
      (sym (matched_same (criteria_of step)) ∙ ap any_matched (sym e) ∙ h))

  -- what keeps an action of the workflow: no action of the step has its name
  abbrev is_other : Bool → Json → Bool
  is_other ok a = not (list_any (is_same_action a) (step_actions b ok step))

  of_either : (ok : Bool) → (list_any asks_in (step_actions b ok step) ≡ true) ⊎ (list_any asks_in (filter (is_other ok) (actions_under b ok w)) ≡ true) → asks_patterns b ≡ true
  of_either ok (inl l) = of_own ok (any_flat is_patterned criteria_in (step_actions b ok step) ∙ l)
  of_either ok (inr r) = of_actions ok (any_flat is_patterned criteria_in (actions_under b ok w) ∙ any_kept asks_in (is_other ok) (actions_under b ok w) r)

  -- of those of its actions one is
  pub asks_by_actions : (ok : Bool) → any_tried (map ready_of (raw_actions b w step ok)) ≡ true → asks_patterns b ≡ true
  asks_by_actions ok h =
      of_either ok (or_either (list_any asks_in (step_actions b ok step)) (list_any asks_in (filter (is_other ok) (actions_under b ok w)))
      (sym (list_any-append asks_in (step_actions b ok step) (filter (is_other ok) (actions_under b ok w))) ∙ sym (tried_same (raw_actions b w step ok)) ∙ h))
