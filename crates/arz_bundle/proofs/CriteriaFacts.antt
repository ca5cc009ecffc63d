-- What the criteria of steps have where a description passes its rules: they can be read.
use Rattle.std.proofs.Common.{◌≡◌, ◌⊎◌, inl, inr, ℕ, suc, Bool, true, false, ◌&&◌, ◌||◌, List, [], ◌∷◌, ◌++◌, cond, Option, Some, None, Result, Ok, Err, All, codes, refl, ap, subst, ◌∙◌}
use Rattle.std.specs.Prelude.{not, option_and_then, unwrap_or}
use Rattle.std.specs.Option.{is_some, option_map_or}
use Rattle.std.specs.Str.{bytes_eq}
use Rattle.std.proofs.lemmas.List.Elements.{All-nil, All-cons}
use Rattle.std.proofs.lemmas.Slice.Eq.{bytes_eq-Decides}
use Rattle.arz_json.specs.Look.{text_in, list_in, member_in, items_at}
use Rattle.arz_json.specs.declared.Json.{Json}
use Rattle.arz_json.specs.declared.Token.TheVariants.{Name, Index}
use Rattle.arz_rules.specs.declared.kinds.Kind.{Kind}
use Rattle.arz_rules.specs.Misses.{misses}
use Rattle.arz_rules.specs.Place.{under}
use Rattle.arz_rules.specs.Sites.{Step, Check, each_item, at, in_items, in_member, items}
use Rattle.arz_rules.specs.Sets.{bad_text, unless}
use Rattle.arz_sites.specs.Sites.{only, items_of, own_steps, steps, each_criterion, each_action, criteria_of}
use Rattle.arz_contents.specs.Contents.{no_object, is_other, bad_context}
use Rattle.arz_sites.specs.declared.checks.Wanted.{Wanted}
use Rattle.arz_sites.specs.Wants.{fits as fits_kind}
use Rattle.arz_query.specs.Answers.{answer}
use Rattle.arz_query.specs.Words.{chosen as by_choice}
use Rattle.arz_query.specs.declared.fault.PathFault.{PathFault}
use Rattle.arz_query.specs.declared.query.Segment.{Segment}
use Rattle.arz_cond.specs.Criteria.{Criterion, IsKind, IsRead, criterion_at}
use Rattle.arz_cond.specs.Outcomes.{is_kind, context_in, text_fault, query_fault, contextual_fault, fault_in, can_be_read, tree_fault}
use Rattle.arz_cond.specs.Reading.{reading}
use Rattle.arz_cond.specs.declared.fault.TestFault.{TestFault}
use Rattle.arz_cond.specs.declared.fault.TestFault.TheVariants as fault
use Rattle.arz_cond.specs.declared.term.Term.{Term}
use Rattle.arz_cond.proofs.Functions.{reads_unless_fault}
use Rattle.arz_criteria.specs.Rules.{condition_if, faulty, is_fraction, is_fraction_in_path, is_bad_condition, is_bad_path}
use Rattle.arz_bundle.proofs.CriterionKinds.{OfStep, IsFit, text_of, fit-criterion}
use Rattle.arz_bundle.proofs.KindFacts.{none-left, none-right, none-under, fits}

-- ---- a check that passes at a site passes at each tree there

below-items : (check : Check) (n : ℕ) (js : List Json) → in_items check n js ≡ [] → All (λ j. check j ≡ []) js
below-items check n [] e = All-nil (λ j. check j ≡ [])
below-items check n (j ∷ js) e =
    let first = under (Index n) (check j) in
    let rest = in_items check (suc n) js in
    All-cons (λ k. check k ≡ []) j js (none-under (Index n) (check j) (none-left first rest e)) (below-items check (suc n) js (none-right first rest e))

below-by : (name : List ℕ) (rest : List Step) (check : Check) (o : Option Json) → in_member (at (each_item ∷ rest) check) name o ≡ [] → All (λ j. at rest check j ≡ []) (unwrap_or (option_and_then list_in o) [])
below-by name rest check None e = All-nil (λ j. at rest check j ≡ [])
below-by name rest check (Some j) e = below-items (at rest check) 0 (items j) (none-under (Name name) (at (each_item ∷ rest) check j) e)

below : (name : List ℕ) (rest : List Step) (check : Check) (j : Json) → at (items_of name ++ rest) check j ≡ [] → All (λ k. at rest check k ≡ []) (items_at name j)
below name rest check j e = below-by name rest check (member_in name j) e

-- of each criterion of a workflow's steps
abbrev pub OfWorkflow : (Json → Type 0) → Json → Type 0
OfWorkflow P workflow = All (OfStep P) (items_at (codes "steps") workflow)

pub each-passes : (check : Check) (d : Json) → each_criterion check d ≡ [] → All (OfWorkflow (λ c. check c ≡ [])) (items_at (codes "workflows") d)
each-passes check d e =
    let here = none-left (at (steps ++ items_of (codes "successCriteria")) check d) (each_action (at criteria_of check) d) e in
    λ i w iw k s ks. below (codes "successCriteria") [] check _
    (below (codes "steps") (items_of (codes "successCriteria")) check _
    (below (codes "workflows") (own_steps ++ items_of (codes "successCriteria")) check d here i w iw) k s ks)

-- ---- no fault

abbrev told_by : (TestFault → Bool) → Option TestFault → Bool
told_by takes o = option_map_or takes o false

-- no rule of conditions tells of this fault
abbrev IsUntold : Option TestFault → Type 0
IsUntold o = (told_by is_fraction o ≡ false) × (told_by is_bad_condition o ≡ false) × (told_by is_bad_path o ≡ false)

one-of-both : (b : Bool) → b ≡ false → not b ≡ false → ⊥
one-of-both true e f = absurd (cc)
one-of-both false e f = absurd (cc)

no-text-fault : (o p : Option Term) → IsUntold (by_choice o (λ t. None) (Some (by_choice p (λ t. fault.Fraction) fault.BadCondition)))
    → by_choice o (λ t. None) (Some (by_choice p (λ t. fault.Fraction) fault.BadCondition)) ≡ None
no-text-fault (Some t) p untold = refl
no-text-fault None (Some t) untold = let e : true ≡ false = untold.0 in absurd (cc)
no-text-fault None None untold = let e : true ≡ false = untold.1 in absurd (cc)

no-query-fault : (r : Result (List Segment) PathFault) → IsUntold (query_fault r) → query_fault r ≡ None
no-query-fault (Ok vs) untold = refl
no-query-fault (Err e) untold = absurd (one-of-both (is_fraction_in_path e) untold.0 untold.2)

no-fault-by : (context path : Bool) (o : Option TestFault) → context ≡ true → (IsUntold o → o ≡ None) → IsUntold (cond context (cond path o None) (Some fault.BadExpression))
    → cond context (cond path o None) (Some fault.BadExpression) ≡ None
no-fault-by true true o e known untold = known untold
no-fault-by true false o e known untold = refl
no-fault-by false path o e known untold = absurd (cc)

no-fault-in : (c : Criterion) (b : Bool) → (b ≡ false → is_some (context_in c.context) ≡ true) → IsUntold (cond b (text_fault c.condition) (contextual_fault c))
    → cond b (text_fault c.condition) (contextual_fault c) ≡ None
no-fault-in c true context untold = no-text-fault (reading false c.condition) (reading true c.condition) untold
no-fault-in c false context untold =
    no-fault-by (is_some (context_in c.context)) (is_kind (codes "jsonpath") c) (query_fault (answer c.condition)) (context refl) (no-query-fault (answer c.condition)) untold

no-fault : (c : Criterion) → (is_kind (codes "simple") c ≡ false → is_some (context_in c.context) ≡ true) → IsUntold (fault_in c) → fault_in c ≡ None
unfolding fault_in
no-fault c context untold = no-fault-in c (is_kind (codes "simple") c) context untold

-- ---- a criterion is read

same-words : (s word : List ℕ) → s ≡ word → bytes_eq s word ≡ true
same-words s word is = (bytes_eq-Decides s word).1 is

or-left : (a b : Bool) → a ≡ true → (a || b) ≡ true
or-left true b e = refl
or-left false b e = absurd (cc)

or-right : (a b : Bool) → b ≡ true → (a || b) ≡ true
or-right true b e = refl
or-right false b e = e

and-both : (a b : Bool) → a ≡ true → b ≡ true → (a && b) ≡ true
and-both true b e f = f
and-both false b e f = absurd (cc)

fit-read : (c : Criterion) → IsFit c.kind c.context → can_be_read c ≡ true
fit-read c (inl simple) = or-left (is_kind (codes "simple") c) _ (same-words c.kind (codes "simple") simple)
fit-read c (inr (kind, s, context)) =
    or-right (is_kind (codes "simple") c) _
    (and-both (is_kind (codes "regex") c || is_kind (codes "jsonpath") c) (is_some c.context) (by kind) (ap (λ (o : Option (List ℕ)). is_some o) context))
  where
    by : (c.kind ≡ codes "regex") ⊎ (c.kind ≡ codes "jsonpath") → (is_kind (codes "regex") c || is_kind (codes "jsonpath") c) ≡ true
    by (inl regex) = or-left (is_kind (codes "regex") c) (is_kind (codes "jsonpath") c) (same-words c.kind (codes "regex") regex)
    by (inr path) = or-right (is_kind (codes "regex") c) (is_kind (codes "jsonpath") c) (same-words c.kind (codes "jsonpath") path)

fit-is : (kind : List ℕ) (context : Option (List ℕ)) → IsFit kind context → IsKind kind
fit-is kind context (inl simple) = inl simple
fit-is kind context (inr (other, s, is)) = inr other

true-or-false : (b : Bool) → b ≡ true → b ≡ false → ⊥
true-or-false b e f = cc

-- another type than `simple` asks for a context
other-asks : (t : Option (List ℕ)) → bytes_eq (unwrap_or t (codes "simple")) (codes "simple") ≡ false → is_other (codes "simple") t ≡ true
other-asks None e = absurd (cc)
other-asks (Some s) e = ap not e

text-passes : (test : List ℕ → Bool) (name : List ℕ) (o : Option Json) (s : List ℕ) → in_member (bad_text test) name o ≡ [] → option_and_then text_in o ≡ Some s → test s ≡ true
text-passes test name None s none is = absurd (cc)
text-passes test name (Some j) s none is = fits (test s) (subst (λ t. unless test t ≡ []) is (none-under (Name name) (bad_text test j) none))

-- its context is an expression
context-read : (j : Json) → (let c = criterion_at j in IsFit c.kind c.context) → bad_context j ≡ [] → is_kind (codes "simple") (criterion_at j) ≡ false → is_some (context_in (criterion_at j).context) ≡ true
context-read j (inl simple) none other = absurd (true-or-false (is_kind (codes "simple") (criterion_at j)) (same-words (criterion_at j).kind (codes "simple") simple) other)
context-read j (inr (kind, s, context)) none other =
    let here = subst (λ b. cond b (at (only (codes "context")) (bad_text (fits_kind Wanted.Expression)) j) [] ≡ []) (other-asks (text_of (member_in (codes "type") j)) other) none in
    ap (λ o. is_some (context_in o)) context ∙ text-passes (fits_kind Wanted.Expression) (codes "context") (member_in (codes "context") j) s here context

-- the rules that a criterion passes
pub record Passes (c : Json) : Type 0 where
  pub met : misses c Kind.Criterion ≡ []
  pub kind : at (only (codes "type")) (bad_text (fits_kind Wanted.NotXpath)) c ≡ []
  pub object : at (only (codes "type")) no_object c ≡ []
  pub fraction : faulty is_fraction c ≡ []
  pub context : bad_context c ≡ []
  pub condition : faulty is_bad_condition c ≡ []
  pub path : faulty is_bad_path c ≡ []

not-told : (b : Bool) → condition_if b ≡ [] → b ≡ false
not-told true e = absurd (cc)
not-told false e = refl

pub criterion-read : (j : Json) → Passes j → IsRead (criterion_at j)
criterion-read j passes =
    let c = criterion_at j in
    let fit = fit-criterion j passes.met passes.kind passes.object in
    let meant : tree_fault j ≡ fault_in c = ap (λ b. cond b (fault_in c) None) (fit-read c fit) in
    let untold = subst IsUntold meant (
      not-told (told_by is_fraction (tree_fault j)) passes.fraction,
      not-told (told_by is_bad_condition (tree_fault j)) passes.condition,
      not-told (told_by is_bad_path (tree_fault j)) passes.path,
    ) in
    (reads_unless_fault c (fit-is c.kind c.context fit)).1 (no-fault c (context-read j fit passes.context) untold)
