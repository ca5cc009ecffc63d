-- What a description has that passes its rules: the workflow that is run is there, and has 1 to 256 steps, whose criteria can
-- be read.
use Rattle.std.proofs.Common.{◌≡◌, ℕ, zero, suc, ◌<◌, ◌≤◌, Bool, true, false, ◌&&◌, ◌||◌, List, [], ◌∷◌, ◌++◌, length, map, get_or, cond, Option, Some, None, All, codes, refl, sym, ap, subst, ◌∙◌, arith}
use Rattle.std.specs.Prelude.{find, nat_le, option_and_then, unwrap_or}
use Rattle.std.specs.List.{list_any}
use Rattle.std.specs.Str.{bytes_eq}
use Rattle.std.proofs.lemmas.Bool.{leb-true}
use Rattle.std.proofs.lemmas.Slice.Eq.{bytes_eq-Decides}
use Rattle.arz_json.specs.Look.{text_in, list_in, object_in, member_in, text_at, items_at}
use Rattle.arz_json.specs.Pointer.{member_named}
use Rattle.arz_json.specs.declared.Json.{Json}
use Rattle.arz_json.specs.declared.Refusal.{Refusal}
use Rattle.arz_json.specs.declared.tree.Json.{out-Json}
use Rattle.arz_json.specs.declared.Member.{Member}
use Rattle.arz_json.specs.declared.Token.TheVariants.{Name, Index}
use Rattle.arz_rules.specs.declared.kinds.Kind.{Kind}
use Rattle.arz_rules.specs.declared.forms.Others.TheVariants.{Are}
use Rattle.arz_rules.specs.declared.forms.Size.TheVariants.{NotEmpty}
use Rattle.arz_rules.specs.Misses.{misses, named_misses, has_name, is_complete, has_size}
use Rattle.arz_rules.specs.Phases.{Rule, Failure, first_failure}
use Rattle.arz_rules.specs.Place.{under}
use Rattle.arz_rules.specs.Sets.{is_among, texts_at, bad_text, unless}
use Rattle.arz_rules.specs.Shapes.{Row, must, may}
use Rattle.arz_rules.specs.Sites.{each_item, at, at_each, in_items, in_member, found, if_there, all_items, items}
use Rattle.arz_components.specs.Described.{Components, component}
use Rattle.arz_sites.specs.Sites.{only, workflows, steps, values, each_criterion}
use Rattle.arz_sites.specs.Wants.{fits as fits_kind, outputs}
use Rattle.arz_sites.specs.declared.checks.Wanted.{Wanted}
use Rattle.arz_doc.specs.Order.{wrong_shapes, shape_rules, naming_rules as own_naming_rules, judged_rules, pattern_rules, sending_rules, name_rules, whole_rules_with, whole_rules}
use Rattle.arz_names.specs.Names.{placeless_uses, bad_version, wrong_names}
use Rattle.arz_contents.specs.Contents.{xpaths, type_objects, fractions, bad_expressions, bad_context, bad_texts, no_object, bad_headers, bad_media_types, over_limits, long_lists, large_numbers, longer}
use Rattle.arz_criteria.specs.Rules.{fraction_conditions, bad_conditions, bad_paths, faulty, is_fraction, is_bad_condition, is_bad_path}
use Rattle.arz_doc.proofs.Orders.{or_later, first-append}
use Rattle.arz_flow.specs.Documents.{workflow_named, steps_in}
use Rattle.arz_flow.specs.Valid.{IsCriterion, steps_limit}
use Rattle.arz_bundle.specs.Naming.{naming_rules, unknown_names, unknown_workflow, unknown_sources, missing_inputs, workflow_ids}
use Rattle.arz_bundle.specs.Phases.{told, earlier, described, IsDescribed}
use Rattle.arz_bundle.specs.Setup.{workflow_run, first_text}
use Rattle.arz_cond.specs.Outcomes.{Patterned}
use Rattle.arz_bundle.proofs.CriteriaFacts.{OfWorkflow, each-passes, criterion-read}
use Rattle.arz_bundle.proofs.CriterionKinds.{OfStep, step-criteria}
use Rattle.arz_bundle.proofs.KindFacts.{left, right, none-left, none-right, none-under, none-told, fits, passed, level, rows-of, member-met, named-there, HasItems, items-of, item-met}

-- ---- phases and rows of rules in which nothing fails

one-of : (b : Bool) (r s : Refusal) → cond b (Some r) (Some s) ≡ None → ⊥
one-of true r s e = absurd (cc)
one-of false r s e = absurd (cc)

none-earlier : (o p : Option Refusal) → earlier o p ≡ None → (o ≡ None) × (p ≡ None)
none-earlier None p e = (refl, e)
none-earlier (Some r) None e = absurd (cc)
none-earlier (Some r) (Some s) e = absurd (one-of (nat_le r.rule s.rule) r s e)

none-later : (o p : Option Failure) → or_later o p ≡ None → (o ≡ None) × (p ≡ None)
none-later None p e = (refl, e)
none-later (Some f) p e = absurd (cc)

both-pass : (rs ss : List Rule) → first_failure (rs ++ ss) ≡ None → (first_failure rs ≡ None) × (first_failure ss ≡ None)
both-pass rs ss e = none-later (first_failure rs) (first_failure ss) (sym (first-append rs ss) ∙ e)

-- ---- the rules of a description

shape-met : (find_ : Components) (is_cyclic : ℕ → Bool) (d : Json) → first_failure (name_rules find_ is_cyclic d) ≡ None → misses d Kind.Description ≡ []
unfolding name_rules
shape-met find_ is_cyclic d e =
    let by = both-pass (shape_rules find_ d) (own_naming_rules find_ is_cyclic d) e in
    none-left (misses d Kind.Description) (placeless_uses find_ d) (passed (3, wrong_shapes find_ d) ((4, bad_version d) ∷ (5, wrong_names d) ∷ []) by.0).0

-- the rules of a description that its steps are to pass
record IsMet (d : Json) : Type 0 where
  shapes : misses d Kind.Description ≡ []
  kinds : xpaths d ≡ []
  objects : type_objects d ≡ []
  fractions : fraction_conditions d ≡ []
  expressions : bad_expressions d ≡ []
  conditions : bad_conditions d ≡ []
  paths : bad_paths d ≡ []
  limits : over_limits d ≡ []

limits-met : (d : Json) → first_failure (sending_rules d) ≡ None → over_limits d ≡ []
limits-met d e =
    let headers = passed (22, bad_headers d) ((23, bad_media_types d) ∷ (24, over_limits d) ∷ []) e in
    let types = passed (23, bad_media_types d) ((24, over_limits d) ∷ []) headers.1 in
    (passed (24, over_limits d) [] types.1).0

all-met : (d : Json) → misses d Kind.Description ≡ [] → first_failure (judged_rules d) ≡ None → over_limits d ≡ [] → IsMet d
all-met d shapes e limits =
    let last : List Rule = (15, bad_paths d) ∷ [] in
    let conditions : List Rule = (14, bad_conditions d) ∷ last in
    let expressions : List Rule = (13, bad_expressions d) ∷ conditions in
    let numbers : List Rule = (12, fractions d ++ fraction_conditions d) ∷ expressions in
    let first = passed (10, xpaths d) ((11, type_objects d) ∷ numbers) e in
    let second = passed (11, type_objects d) numbers first.1 in
    let third = passed (12, fractions d ++ fraction_conditions d) expressions second.1 in
    let fourth = passed (13, bad_expressions d) conditions third.1 in
    let fifth = passed (14, bad_conditions d) last fourth.1 in
    record {
      shapes = shapes;
      kinds = first.0;
      objects = second.0;
      fractions = none-right (fractions d) (fraction_conditions d) third.0;
      expressions = fourth.0;
      conditions = fifth.0;
      paths = (passed (15, bad_paths d) [] fifth.1).0;
      limits = limits;
    }

met-with : (find_ : Components) (is_cyclic : ℕ → Bool) (refuses : List ℕ → Bool) (d : Json) → first_failure (whole_rules_with find_ is_cyclic refuses d) ≡ None → IsMet d
unfolding whole_rules_with
met-with find_ is_cyclic refuses d e =
    let names = name_rules find_ is_cyclic d in
    let sent = both-pass (names ++ judged_rules d ++ pattern_rules refuses d) (sending_rules d) e in
    let searched = both-pass (names ++ judged_rules d) (pattern_rules refuses d) sent.0 in
    let judged = both-pass names (judged_rules d) searched.0 in
    all-met d (shape-met find_ is_cyclic d judged.0) judged.1 (limits-met d sent.1)

met : (is_cyclic : ℕ → Bool) (refuses : List ℕ → Bool) (d : Json) → first_failure (whole_rules is_cyclic refuses d) ≡ None → IsMet d
unfolding whole_rules
met is_cyclic refuses d e = met-with (component d) is_cyclic refuses d e

-- ---- lists of a kind

sized-some : (js : List Json) → has_size NotEmpty (map misses js) ≡ true → 0 < length js
sized-some [] e = absurd (cc)
sized-some (j ∷ js) e = omega arith

-- a list under a name, of items of a kind, of which there is one
record HasList (name : List ℕ) (kind : Kind) (j : Json) : Type 0 where
  value : Json
  named : member_in name j ≡ Some value
  each : List Json
  are : list_in value ≡ Some each
  some : 0 < length each
  met : (i : ℕ) (d : Json) → i < length each → misses (get_or each i d) kind ≡ []

list-by : (name : List ℕ) (kind : Kind) (j v : Json) → member_in name j ≡ Some v → HasItems NotEmpty kind (list_in v) → HasList name kind j
list-by name kind j v named has = record {
  value = v;
  named = named;
  each = has.items;
  are = has.are;
  some = sized-some has.items has.sized;
  met = λ i d lt. item-met kind 0 has.items i d has.met lt;
}

list-is : (name : List ℕ) (kind : Kind) (j : Json) (has : HasList name kind j) → items_at name j ≡ has.each
list-is name kind j has =
    ap (λ (o : Option Json). unwrap_or (option_and_then list_in o) []) has.named ∙ ap (λ (o : Option (List Json)). unwrap_or o []) has.are

member-by : (j : Json) (name : List ℕ) (v : Json) (ms : List Member) → object_in j ≡ Some ms → member_named ms name ≡ Some v → member_in name j ≡ Some v
member-by j name v ms are named = ap (option_and_then (λ (ns : List Member). member_named ns name)) are ∙ named

abbrev more_of_workflow : List Row
more_of_workflow =
    may (codes "inputs") Kind.Inputs
    ∷ may (codes "dependsOn") Kind.Texts
    ∷ may (codes "parameters") Kind.CallParameters
    ∷ may (codes "successActions") Kind.SuccessActions
    ∷ may (codes "failureActions") Kind.FailureActions
    ∷ may (codes "outputs") Kind.TextMap
    ∷ []

workflow-steps : (w : Json) → misses w Kind.Workflow ≡ [] → HasList (codes "steps") Kind.Step w
workflow-steps w e =
    let rows : List Row = must (codes "workflowId") Kind.Text ∷ must (codes "steps") Kind.Steps ∷ more_of_workflow in
    let has = rows-of rows (Are Kind.Anything) (out-Json w) (level w Kind.Workflow e) in
    let names = named_misses has.members in
    let there = named-there has.members (codes "steps")
    (left (has_name names (codes "steps")) (is_complete more_of_workflow names)
    (right (has_name names (codes "workflowId")) (has_name names (codes "steps") && is_complete more_of_workflow names) has.complete)) in
    let fit = member-met rows (Are Kind.Anything) has.members (codes "steps") there.0 has.met there.1 in
    list-by (codes "steps") Kind.Step w there.0 (member-by w (codes "steps") there.0 has.members has.are there.1) (items-of NotEmpty Kind.Step (out-Json there.0) (level there.0 Kind.Steps fit))

workflows-of : (d : Json) → misses d Kind.Description ≡ [] → HasList (codes "workflows") Kind.Workflow d
workflows-of d e =
    let more : List Row = may (codes "components") Kind.Components ∷ [] in
    let rows : List Row = must (codes "arazzo") Kind.Text ∷ must (codes "info") Kind.Info ∷ must (codes "sourceDescriptions") Kind.Sources ∷ must (codes "workflows") Kind.Workflows ∷ more in
    let has = rows-of rows (Are Kind.Anything) (out-Json d) (level d Kind.Description e) in
    let names = named_misses has.members in
    let last = has_name names (codes "workflows") && is_complete more names in
    let there = named-there has.members (codes "workflows")
    (left (has_name names (codes "workflows")) (is_complete more names)
    (right (has_name names (codes "sourceDescriptions")) last
    (right (has_name names (codes "info")) (has_name names (codes "sourceDescriptions") && last)
    (right (has_name names (codes "arazzo")) (has_name names (codes "info") && (has_name names (codes "sourceDescriptions") && last)) has.complete)))) in
    let fit = member-met rows (Are Kind.Anything) has.members (codes "workflows") there.0 has.met there.1 in
    list-by (codes "workflows") Kind.Workflow d there.0 (member-by d (codes "workflows") there.0 has.members has.are there.1)
    (items-of NotEmpty Kind.Workflow (out-Json there.0) (level there.0 Kind.Workflows fit))

-- ---- how many steps a workflow has

few-at : (o : Option Json) → in_member (longer 256) (codes "steps") o ≡ [] → length (unwrap_or (option_and_then list_in o) []) ≤ steps_limit
few-at None e = omega arith
few-at (Some j) e = leb-true (length (items j)) 256 (fits (nat_le (length (items j)) 256) (none-under (Name (codes "steps")) (longer 256 j) e))

few-in : (n : ℕ) (ws : List Json) (i : ℕ) (x : Json) → in_items (at (only (codes "steps")) (longer 256)) n ws ≡ [] → i < length ws → length (items_at (codes "steps") (get_or ws i x)) ≤ steps_limit
few-in n [] i x e lt = absurd (omega arith)
few-in n (w ∷ ws) zero x e lt =
    few-at (member_in (codes "steps") w)
    (none-under (Index n) (at (only (codes "steps")) (longer 256) w) (none-left (under (Index n) (at (only (codes "steps")) (longer 256) w)) (in_items (at (only (codes "steps")) (longer 256)) (suc n) ws) e))
few-in n (w ∷ ws) (suc i) x e lt =
    few-in (suc n) ws i x (none-right (under (Index n) (at (only (codes "steps")) (longer 256) w)) (in_items (at (only (codes "steps")) (longer 256)) (suc n) ws) e) (omega arith)

few-of : (d : Json) (has : HasList (codes "workflows") Kind.Workflow d) → over_limits d ≡ [] → (i : ℕ) (x : Json) → i < length has.each
    → length (items_at (codes "steps") (get_or has.each i x)) ≤ steps_limit
few-of d has e i x lt =
    let lists = none-left (long_lists d) (large_numbers d) e in
    let steps = none-right (at (only (codes "sourceDescriptions")) (longer 16) d ++ at (only (codes "workflows")) (longer 256) d) (at (workflows ++ only (codes "steps")) (longer 256) d) lists in
    let check = at (only (codes "steps")) (longer 256) in
    let below = none-under (Name (codes "workflows")) (in_items check 0 (items has.value))
    (subst (λ o. in_member (at (each_item ∷ only (codes "steps")) (longer 256)) (codes "workflows") o ≡ []) has.named steps) in
    few-in 0 has.each i x (subst (λ o. in_items check 0 (unwrap_or o []) ≡ []) has.are below) lt

some-steps : (w : Json) → misses w Kind.Workflow ≡ [] → 0 < length (items_at (codes "steps") w)
some-steps w e =
    let has = workflow-steps w e in
    subst (λ js. 0 < length js) (sym (list-is (codes "steps") Kind.Step w has)) has.some

-- ---- the criteria of steps

abbrev IsKnown : Json → Type 0
IsKnown c = misses c Kind.Criterion ≡ []

workflow-known : (w : Json) → misses w Kind.Workflow ≡ [] → OfWorkflow IsKnown w
workflow-known w e =
    let has = workflow-steps w e in
    subst (All (OfStep IsKnown)) (sym (list-is (codes "steps") Kind.Step w has)) (λ k d lt. step-criteria (get_or has.each k d) (has.met k d lt))

each-known : (d : Json) (has : HasList (codes "workflows") Kind.Workflow d) → All (OfWorkflow IsKnown) (items_at (codes "workflows") d)
each-known d has =
    subst (All (OfWorkflow IsKnown)) (sym (list-is (codes "workflows") Kind.Workflow d has)) (λ k w lt. workflow-known (get_or has.each k w) (has.met k w lt))

each-context : (d : Json) → bad_expressions d ≡ [] → each_criterion bad_context d ≡ []
each-context d e =
    let written = at_each outputs (bad_text (fits_kind Wanted.Expression)) d in
    let criteria = each_criterion bad_context d in
    let texts = at_each values bad_texts d in
    let paths = at (steps ++ only (codes "operationPath")) (bad_text (fits_kind Wanted.OperationPath)) d in
    none-right written criteria (none-left (written ++ criteria) texts (none-left (written ++ criteria ++ texts) paths e))

-- they can be read
each-read : (d : Json) (has : HasList (codes "workflows") Kind.Workflow d) → IsMet d → All (OfWorkflow IsCriterion) (items_at (codes "workflows") d)
each-read d has is =
    let known = each-known d has in
    let kinds = each-passes (at (only (codes "type")) (bad_text (fits_kind Wanted.NotXpath))) d is.kinds in
    let objects = each-passes (at (only (codes "type")) no_object) d is.objects in
    let fractions = each-passes (faulty is_fraction) d is.fractions in
    let contexts = each-passes bad_context d (each-context d is.expressions) in
    let conditions = each-passes (faulty is_bad_condition) d is.conditions in
    let paths = each-passes (faulty is_bad_path) d is.paths in
    λ i w iw k s ks m c lt. criterion-read _ (record {
      met = known i w iw k s ks m c lt;
      kind = kinds i w iw k s ks m c lt;
      object = objects i w iw k s ks m c lt;
      fraction = fractions i w iw k s ks m c lt;
      context = contexts i w iw k s ks m c lt;
      condition = conditions i w iw k s ks m c lt;
      path = paths i w iw k s ks m c lt;
    })

-- ---- the workflow that is run

module _ {A : Type 0} (test : A → Bool) (P : A → Type 0) where
  find-at : (b : Bool) (x : A) (o : Option A) (more : Bool) → (b || more) ≡ true → P x → (more ≡ true → (y : A) × (o ≡ Some y) × P y) → (y : A) × (cond b (Some x) o ≡ Some y) × P y
  find-at true x o more e p rest = (x, refl, p)
  find-at false x o more e p rest = rest e

  -- one that passes is found
  find-one : (xs : List A) → list_any test xs ≡ true → ((i : ℕ) (d : A) → i < length xs → P (get_or xs i d)) → (y : A) × (find test xs ≡ Some y) × P y
  find-one [] e each = absurd (cc)
  find-one (x ∷ xs) e each =
      find-at (test x) x (find test xs) (list_any test xs) e (each 0 x (omega arith)) (λ more. find-one xs more (λ i d lt. each (suc i) d (omega arith)))

abbrev is_called : List ℕ → Json → Bool
is_called id w = bytes_eq (text_at (codes "workflowId") w) id

first-called : (ws : List Json) → 0 < length ws → list_any (is_called (first_text (codes "workflowId") ws)) ws ≡ true
first-called [] lt = absurd (omega arith)
first-called (w ∷ ws) lt = ap (λ b. b || list_any (is_called (text_at (codes "workflowId") w)) ws) ((bytes_eq-Decides (text_at (codes "workflowId") w) (text_at (codes "workflowId") w)).1 refl)

or-true : (a b c : Bool) → (a || b) ≡ true → (b ≡ true → c ≡ true) → (a || c) ≡ true
or-true true b c e more = refl
or-true false b c e more = more e

or-other : (a c : Bool) → c ≡ true → (a || c) ≡ true
or-other true c e = refl
or-other false c e = e

abbrev ids_in : List Json → List (Option (List ℕ))
ids_in ws = map text_in (all_items (found (only (codes "workflowId"))) ws)

-- of the text under a workflow's id, and those of the others
one-called : (t : Option (List ℕ)) (ids : List (Option (List ℕ))) (s : List ℕ) (more : Bool) → is_among (t ∷ ids) s ≡ true → (is_among ids s ≡ true → more ≡ true) → (bytes_eq (unwrap_or t []) s || more) ≡ true
one-called None ids s more e rest = or-other (bytes_eq [] s) more (rest e)
one-called (Some t) ids s more e rest = or-true (bytes_eq t s) (is_among ids s) more e rest

called-by : (o : Option Json) (ws : List Json) (s : List ℕ) (more : Bool) → is_among (map text_in (if_there (found []) o ++ all_items (found (only (codes "workflowId"))) ws)) s ≡ true
    → (is_among (ids_in ws) s ≡ true → more ≡ true) → (bytes_eq (unwrap_or (option_and_then text_in o) []) s || more) ≡ true
called-by None ws s more e rest = or-other (bytes_eq [] s) more (rest e)
called-by (Some k) ws s more e rest = one-called (text_in k) (ids_in ws) s more e rest

-- a text among the ids is that of a workflow
among-called : (ws : List Json) (s : List ℕ) → is_among (ids_in ws) s ≡ true → list_any (is_called s) ws ≡ true
among-called [] s e = absurd (cc)
among-called (w ∷ ws) s e = called-by (member_in (codes "workflowId") w) ws s (list_any (is_called s) ws) e (among-called ws s)

ids-by : (o : Option Json) (s : List ℕ) → is_among (map text_in (if_there (found (each_item ∷ only (codes "workflowId"))) o)) s ≡ true
    → list_any (is_called s) (unwrap_or (option_and_then list_in o) []) ≡ true
ids-by None s e = absurd (cc)
ids-by (Some j) s e = among-called (items j) s e

taken-by : (test : List ℕ → Bool) (t : Option (List ℕ)) (s : List ℕ) → unless test t ≡ [] → t ≡ Some s → test s ≡ true
taken-by test t s none is = fits (test s) (subst (λ o. unless test o ≡ []) is none)

named-by : (name : List ℕ) (test : List ℕ → Bool) (o : Option Json) (s : List ℕ) → in_member (bad_text test) name o ≡ [] → option_and_then text_in o ≡ Some s → test s ≡ true
named-by name test None s none is = absurd (cc)
named-by name test (Some j) s none is = taken-by test (text_in j) s (none-under (Name name) (bad_text test j) none) is

module _ (setup d : Json) (named : first_failure (naming_rules d setup) ≡ None) (some : 0 < length (items_at (codes "workflows") d)) where
  known : in_member (bad_text (is_among (texts_at workflow_ids d))) (codes "workflow") (member_in (codes "workflow") setup) ≡ []
  known = none-left (unknown_workflow d setup) (unknown_sources d setup) (passed (8, unknown_names d setup) ((27, missing_inputs d setup) ∷ []) named).0

  run-by : (o : Option (List ℕ)) → option_and_then text_in (member_in (codes "workflow") setup) ≡ o
      → list_any (is_called (unwrap_or o (first_text (codes "workflowId") (items_at (codes "workflows") d)))) (items_at (codes "workflows") d) ≡ true
  run-by None is = first-called (items_at (codes "workflows") d) some
  run-by (Some s) is = ids-by (member_in (codes "workflows") d) s (named-by (codes "workflow") (is_among (texts_at workflow_ids d)) (member_in (codes "workflow") setup) s known is)

  -- a workflow has the id of the one that is run
  run-called : list_any (is_called (workflow_run setup d)) (items_at (codes "workflows") d) ≡ true
  run-called = run-by (option_and_then text_in (member_in (codes "workflow") setup)) refl

-- such steps have such criteria
abbrev pub AreSteps : List Json → Type 0
AreSteps js = (0 < length js) × (length js ≤ steps_limit) × All (OfStep IsCriterion) js

abbrev HasCriteria : Json → Type 0
HasCriteria w = AreSteps (items_at (codes "steps") w)

-- the steps of the workflow that is run
pub run-steps : (patterned : Patterned) (setup d : Json) → IsDescribed patterned setup d None → AreSteps (steps_in (workflow_named (workflow_run setup d) d))
run-steps patterned setup d (is_cyclic, tells, refuses, readings, none) =
    let phases = none-earlier (told (codes "setup") (naming_rules d setup)) (described is_cyclic refuses d) (sym none) in
    let own = met is_cyclic refuses d (none-told (codes "arazzo") (whole_rules is_cyclic refuses d) phases.1) in
    let has = workflows-of d own.shapes in
    let are = list-is (codes "workflows") Kind.Workflow d has in
    let called = run-called setup d (none-told (codes "setup") (naming_rules d setup) phases.0) (subst (λ js. 0 < length js) (sym are) has.some) in
    let read = subst (All (OfWorkflow IsCriterion)) are (each-read d has own) in
    let one = find-one (is_called (workflow_run setup d)) HasCriteria has.each (subst (λ js. list_any (is_called (workflow_run setup d)) js ≡ true) are called)
    (λ i x lt. (some-steps (get_or has.each i x) (has.met i x lt), few-of d has own.limits i x lt, read i x lt)) in
    let is : workflow_named (workflow_run setup d) d ≡ Some one.0 = ap (find (is_called (workflow_run setup d))) are ∙ one.1 in
    subst (λ o. AreSteps (steps_in o)) (sym is) one.2
