-- The plans of a valid bundle.
use Rattle.std.proofs.Common.{◌≡◌, ℕ, ◌<◌, ◌&&◌, ◌||◌, ◌++◌, List, [], ◌∷◌, All, map, length, codes, Bool, true, false, cond, Option, Some, None, refl, sym, ap, ap₂, subst, ◌∙◌, arith, Result, Ok, Err, IfOk}
use Rattle.std.specs.Prelude.{not, filter}
use Rattle.std.specs.List.{flat_map, list_any}
use Rattle.std.specs.Option.{is_some, is_none, option_to_list}
use Rattle.std.specs.Str.{bytes_eq}
use Rattle.std.specs.Borrow.{Bor}
use Rattle.std.specs.BTreeMap.{BTreeMap}
use Rattle.std.proofs.lemmas.List.{map-append, get_or-map, length-map}
use Rattle.std.proofs.lemmas.List.Elements.{All-nil, All-cons, All-head, All-tail, All-append, All-filter, All-weaker, All-get_or}
use Rattle.std.proofs.lemmas.Option.{same_Some}
use Rattle.std.proofs.lemmas.Slice.Eq.{bytes_eq-Decides}
use Rattle.arz_json.specs.Tree.{IsWithin, IsWellFormed}
use Rattle.arz_json.specs.declared.Json.{Json}
use Rattle.arz_json.proofs.Parts.{IsWithin-more}
use Rattle.arz_components.specs.Described.{Components, component as component_in}
use Rattle.arz_components.specs.declared.components.Part.{Part}
use Rattle.arz_cond.specs.Criteria.{Criterion, IsRead, Spells, kind_of, criterion_at}
use Rattle.arz_cond.specs.Outcomes.{is_kind, can_be_read}
use Rattle.arz_cond.specs.declared.test.Parsed.{Parsed}
use Rattle.arz_cond.specs.declared.test.Parsed.TheVariants.{Simple, Regex, Path}
use Rattle.arz_cond.proofs.Functions.{read_kind, reads_unless_fault}
use Rattle.arz_openapi.specs.Targets.{Targets, targets as targets_in}
use Rattle.arz_operation.specs.declared.types.Call.{Call}
use Rattle.arz_operation.specs.declared.types.Call.TheVariants as call
use Rattle.arz_description.specs.Calls.{call_of}
use Rattle.arz_description.specs.Requests.{AreWellFormed}
use Rattle.arz_description.proofs.Sound.{listed_under, found_sound}
use Rattle.arz_actions.specs.Ready.{IsTryable, ready_of, readies, joined_actions as joined_ready}
use Rattle.arz_actions.specs.declared.ready.Ready.{Ready}
use Rattle.arz_flow.specs.declared.bundle.Bundle.{Bundle}
use Rattle.arz_relation.specs.Documents.{workflows_in, workflow_named, is_workflow, steps_under, criteria_of, index_of, step_actions, actions_under, joined_actions, is_same_action, criteria_in, criteria_of_actions, criteria_of_step, criteria_of_workflow}
use Rattle.arz_relation.specs.Valid.{IsValid, IsCriterion}
use Rattle.arz_relation.proofs.Steady.{all_found}
use Rattle.arz_runs.specs.Grounds.{IsFound, IsPlannedAs}
use Rattle.arz_runs.specs.Planned.{IsPlanned, IsPlan, calls_by, raw_actions, steps_in_plan}
use Rattle.arz_runs.specs.Readable.{IsSound, is_readable, are_readable, are_tryable}
use Rattle.arz_runs.specs.Reading.{IsReadableStep, IsReadableFlow, calls_as, IsReadStep, IsReadFlow, IsReadIf, AreRead}
use Rattle.arz_runs.specs.declared.plans.Planned.{Planned}
use Rattle.arz_runs.specs.declared.plans.Plan.{Plan}

-- ---- what a valid bundle holds can be read

module _ {X : Type 0} (P : X → Type 0) where
  All-left : (xs ys : List X) → All P (xs ++ ys) → All P xs
  All-left [] ys h = All-nil P
  All-left (x ∷ xs) ys h = All-cons P x xs (All-head P x (xs ++ ys) h) (All-left xs ys (All-tail P x (xs ++ ys) h))

  All-right : (xs ys : List X) → All P (xs ++ ys) → All P ys
  All-right [] ys h = h
  All-right (x ∷ xs) ys h = All-right xs ys (All-tail P x (xs ++ ys) h)

  -- of lists that stand one behind the other
  each_of : {Y : Type 0} (f : Y → List X) (ys : List Y) → All P (flat_map f ys) → All (λ y. All P (f y)) ys
  each_of f [] h = All-nil (λ y. All P (f y))
  each_of f (y ∷ ys) h = All-cons (λ y. All P (f y)) y ys (All-left (f y) (flat_map f ys) h) (each_of f ys (All-right (f y) (flat_map f ys) h))

module _ (b : Bundle) where
  tryable : (actions : List Json) → All IsCriterion (criteria_of_actions actions) → All IsTryable actions
  tryable actions all = each_of IsCriterion criteria_in actions all

  readable_step : (step : Json) → All IsCriterion (criteria_of_step b step) → IsReadableStep (component_in b.arazzo) step
  readable_step step all =
      let own = criteria_of step in
      let success = criteria_of_actions (step_actions b true step) in
      let failure = criteria_of_actions (step_actions b false step) in
      let actions = All-right IsCriterion own (success ++ failure) all in
      record {
        criteria = All-left IsCriterion own (success ++ failure) all;
        success = tryable (step_actions b true step) (All-left IsCriterion success failure actions);
        failure = tryable (step_actions b false step) (All-right IsCriterion success failure actions);
      }

  readable_flow : (w : Json) → All IsCriterion (criteria_of_workflow b w) → IsReadableFlow (component_in b.arazzo) w
  readable_flow w all =
      let steps = flat_map (criteria_of_step b) (steps_under w) in
      let success = criteria_of_actions (actions_under b true w) in
      let failure = criteria_of_actions (actions_under b false w) in
      let actions = All-right IsCriterion steps (success ++ failure) all in
      record {
        steps = All-weaker (λ s. All IsCriterion (criteria_of_step b s)) (IsReadableStep (component_in b.arazzo)) readable_step (steps_under w)
            (each_of IsCriterion (criteria_of_step b) (steps_under w) (All-left IsCriterion steps (success ++ failure) all));
        success = tryable (actions_under b true w) (All-left IsCriterion success failure actions);
        failure = tryable (actions_under b false w) (All-right IsCriterion success failure actions);
      }

  flows_readable : IsValid b → All (IsReadableFlow (component_in b.arazzo)) (workflows_in b.arazzo)
  flows_readable valid =
      All-weaker (λ w. All IsCriterion (criteria_of_workflow b w)) (IsReadableFlow (component_in b.arazzo)) readable_flow (workflows_in b.arazzo)
      (each_of IsCriterion (criteria_of_workflow b) (workflows_in b.arazzo) valid.criteria)

  -- by components that are found as they stand in the description
  pub found_readable : IsValid b → (find : Components) → ((part : Part) (q : List ℕ) → find part q ≡ component_in b.arazzo part q) → (ws : List Json) → ws ≡ workflows_in b.arazzo → All (IsReadableFlow find) ws
  found_readable valid find same ws is =
      subst (λ (l : List Json). All (IsReadableFlow find) l) (sym is)
      (let stands : component_in b.arazzo ≡ find = λ i part q. sym (same part q) i in subst (λ (f : Components). All (IsReadableFlow f) (workflows_in b.arazzo)) stands (flows_readable valid))

  sound_whole : IsValid b → IsWellFormed b.arazzo
  sound_whole valid = IsWithin-more 127 130 b.arazzo (omega arith) valid.arazzo

  pub flows_sound : IsValid b → (ws : List Json) → ws ≡ workflows_in b.arazzo → All IsWellFormed ws
  flows_sound valid ws is = listed_under (codes "workflows") b.arazzo ws is (sound_whole valid)

  pub components_sound : IsValid b → (find : Components) → ((part : Part) (q : List ℕ) → find part q ≡ component_in b.arazzo part q) → AreWellFormed find
  components_sound valid find same = found_sound find b.arazzo same (sound_whole valid)

-- ---- criteria and actions that can be read

and_both : (a b : Bool) → (a && b) ≡ true → (a ≡ true) × (b ≡ true)
and_both true b h = (refl, h)
and_both false b h = absurd cc

or_true : (a b : Bool) → b ≡ true → (a || b) ≡ true
or_true true b h = refl
or_true false b h = h

can_be : (c : Criterion) (parsed : Parsed) → c.kind ≡ kind_of parsed → Spells c parsed → can_be_read c ≡ true
can_be c (Simple t) kind spells = ap (λ b. b || ((is_kind (codes "regex") c || is_kind (codes "jsonpath") c) && is_some c.context)) ((bytes_eq-Decides c.kind (codes "simple")).1 kind)
can_be c (Regex e) kind spells =
    or_true (is_kind (codes "simple") c) _
    (ap₂ (λ a b. (a || is_kind (codes "jsonpath") c) && b) ((bytes_eq-Decides c.kind (codes "regex")).1 kind) (ap is_some spells.1.0))
can_be c (Path q e) kind spells =
    or_true (is_kind (codes "simple") c) _
    (ap₂ (λ a b. a && b) (or_true (is_kind (codes "regex") c) _ ((bytes_eq-Decides c.kind (codes "jsonpath")).1 kind)) (ap is_some spells.context.1.0))

read_is_readable : (c : Criterion) → IsRead c → is_readable c ≡ true
read_is_readable c read =
    let none = (reads_unless_fault c (read_kind c read)).0 read in
    ap₂ (λ a b. a && b) (can_be c read.parsed read.kind read.spells) (ap is_none none)

pub sound_of : (b : Bundle) → IsValid b → IsSound b
sound_of b valid = record {
  starts = valid.starts;
  workflows = valid.workflows;
  criteria = λ i d lt. read_is_readable _ (valid.criteria i d lt);
  arazzo = valid.arazzo;
  inputs = valid.inputs;
  sources = valid.sources;
}

read_tests : (cs : List Json) → All IsCriterion cs → are_readable (map criterion_at cs) ≡ true
read_tests [] all = refl
read_tests (c ∷ cs) all = ap₂ (λ a b. a && b) (read_is_readable (criterion_at c) (All-head IsCriterion c cs all)) (read_tests cs (All-tail IsCriterion c cs all))

read_actions : (actions : List Json) → All IsTryable actions → are_tryable (map ready_of actions) ≡ true
read_actions [] all = refl
read_actions (a ∷ actions) all = ap₂ (λ a b. a && b) (read_tests (criteria_in a) (All-head IsTryable a actions all)) (read_actions actions (All-tail IsTryable a actions all))

-- ---- joined lists, read or raw

has_same : (a : Json) (own : List Json) → list_any (λ o. bytes_eq o.name (ready_of a).name) (map ready_of own) ≡ list_any (is_same_action a) own
has_same a [] = refl
has_same a (o ∷ own) = ap (λ b. is_same_action a o || b) (has_same a own)

kept : (b : Bool) (a : Json) (found : List Ready) (raw : List Json) → found ≡ map ready_of raw → cond b (ready_of a ∷ found) found ≡ map ready_of (cond b (a ∷ raw) raw)
kept true a found raw h = ap (λ l. ready_of a ∷ l) h
kept false a found raw h = h

others_same : (own others : List Json) → filter (λ a. not (list_any (λ o. bytes_eq o.name a.name) (map ready_of own))) (map ready_of others) ≡ map ready_of (filter (λ a. not (list_any (is_same_action a) own)) others)
others_same own [] = refl
others_same own (a ∷ others) =
    ap (λ (b : Bool). cond (not b) (ready_of a ∷ filter (λ a. not (list_any (λ o. bytes_eq o.name a.name) (map ready_of own))) (map ready_of others)) (filter (λ a. not (list_any (λ o. bytes_eq o.name a.name) (map ready_of own))) (map ready_of others))) (has_same a own)
    ∙ kept (not (list_any (is_same_action a) own)) a _ _ (others_same own others)

joined_same : (own others : List Json) → joined_ready (map ready_of own) (map ready_of others) ≡ map ready_of (joined_actions own others)
joined_same own others =
    ap (λ l. map ready_of own ++ l) (others_same own others) ∙ sym (map-append ready_of own (filter (λ a. not (list_any (is_same_action a) own)) others))

joined_tryable : (own others : List Json) → All IsTryable own → All IsTryable others → All IsTryable (joined_actions own others)
joined_tryable own others p q = All-append IsTryable own (filter (λ a. not (list_any (is_same_action a) own)) others) p (All-filter (λ a. not (list_any (is_same_action a) own)) IsTryable others q)

-- ---- the plans of a bundle

module _ (b : Bundle) where
  abbrev here : Components
  here = component_in b.arazzo

  abbrev calling : Targets
  calling = targets_in b.sources b.servers

  calls_same : (w step : Json) (c : Call) → calls_as here calling w step c ≡ calls_by b w step c
  calls_same w step (call.Id source id) = refl
  calls_same w step (call.At source pointer) = refl
  calls_same w step (call.Flow id) = refl

  planned_as : (w : Json) (p : Planned) → IsReadableFlow here w → IsReadableStep here p.step.now → IsReadStep here calling w p → IsPlanned b w p
  planned_as w p flow step read =
      let success : readies p.success ≡ map ready_of (raw_actions b w p.step.now true) = read.success ∙ joined_same (step_actions b true p.step.now) (actions_under b true w) in
      let failure : readies p.failure ≡ map ready_of (raw_actions b w p.step.now false) = read.failure ∙ joined_same (step_actions b false p.step.now) (actions_under b false w) in
      record {
        calls = read.calls ∙ calls_same w p.step.now (call_of p.step.now);
        tests = read.tests;
        success = success;
        failure = failure;
        tests_read = ap are_readable read.tests ∙ read_tests (criteria_of p.step.now) step.criteria;
        success_read = ap are_tryable success ∙ read_actions _ (joined_tryable (step_actions b true p.step.now) (actions_under b true w) step.success flow.success);
        failure_read = ap are_tryable failure ∙ read_actions _ (joined_tryable (step_actions b false p.step.now) (actions_under b false w) step.failure flow.failure);
      }

  steps_readable : (ps : List Planned) → All (IsReadableStep here) (map (λ p. p.step.now) ps) → All (λ p. IsReadableStep here p.step.now) ps
  steps_readable ps all k d lt =
      subst (IsReadableStep here) (get_or-map (λ p. p.step.now) ps k d d.step.now lt)
      (All-get_or (IsReadableStep here) (map (λ p. p.step.now) ps) k d.step.now (subst (λ n. k < n) (sym (length-map ps (λ p. p.step.now))) lt) all)

  plan_as : (id : List ℕ) (w : Json) (p : Plan) → workflow_named id b.arazzo ≡ Some w → IsReadableFlow here w → IsReadFlow here calling w p → IsPlan b id p
  plan_as id w p named readable read =
      let steps : All (IsReadableStep here) (steps_in_plan p) = subst (λ (l : List Json). All (IsReadableStep here) l) (sym read.steps) readable.steps in
      let each : All (IsPlanned b w) p.steps.items =
      λ k d lt. planned_as w _ readable (steps_readable p.steps.items steps k d lt) (read.each k d lt) in
      record {
        named = ap option_to_list named ∙ ap (λ j. j ∷ []) (sym read.workflow);
        steps = read.steps ∙ ap steps_under (sym read.workflow);
        each = subst (λ (j : Json). All (IsPlanned b j) p.steps.items) (sym read.workflow) each;
        indexes = λ q. read.indexes q ∙ ap (λ (j : Json). index_of q (steps_under j)) (sym read.workflow);
      }

  found_if : (id : List ℕ) (o : Option Json) (found : Option Plan) → workflow_named id b.arazzo ≡ o → ((w : Json) → o ≡ Some w → IsReadableFlow here w) → IsReadIf here calling o found → IsFound b id found
  found_if id None None named readable read = record { there = λ p e. absurd (cc); none = λ e. ap is_some named }
  found_if id None (Some p) named readable read = absurd read
  found_if id (Some w) None named readable read = absurd read
  found_if id (Some w) (Some p) named readable read = record {
    there = λ q e. subst (IsPlan b id) (same_Some p q e) (plan_as id w p named (readable w refl) read);
    none = λ e. absurd (cc);
  }

  plans_here : IsValid b → (plans : BTreeMap (Bor (List ℕ)) Plan) → AreRead here calling (workflows_in b.arazzo) plans → IsPlannedAs b plans
  plans_here valid plans read id =
      found_if id (workflow_named id b.arazzo) _ refl (λ w e. all_found (IsReadableFlow here) (is_workflow id) (workflows_in b.arazzo) w (flows_readable b valid) e) (read id)

  pub plans_as : IsValid b → (find : Components) (look : Targets) (ws : List Json) → ((part : Part) (q : List ℕ) → find part q ≡ component_in b.arazzo part q) → look ≡ calling → ws ≡ workflows_in b.arazzo
      → (plans : BTreeMap (Bor (List ℕ)) Plan) → AreRead find look ws plans → IsPlannedAs b plans
  plans_as valid find look ws same called is plans read =
      let stands : find ≡ here = λ i part q. same part q i in
      plans_here valid plans
      (subst (λ (l : List Json). AreRead here calling l plans) is
      (subst (λ (t : Targets). AreRead here t ws plans) called
      (subst (λ (f : Components). AreRead f look ws plans) stands read)))

-- what holds of a value as it is read holds of it as it stands
pub as_meant : {X F : Type 0} (P Q : X → Type 0) → ((x : X) → P x → Q x) → (r : Result X F) → IfOk r P → IfOk r Q
as_meant P Q step (Ok x) h = step x h
as_meant P Q step (Err e) h = h
