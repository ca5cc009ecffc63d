-- What the kind of a criterion tells: of which type it is, and that it has a context where one is wanted.
use Rattle.std.proofs.Common.{◌≡◌, ◌⊎◌, inl, inr, ℕ, Bool, true, false, ◌&&◌, ◌||◌, List, [], ◌∷◌, cond, Option, Some, None, All, codes, refl, sym, ap, subst, ◌∙◌}
use Rattle.std.specs.Prelude.{not, option_and_then, unwrap_or}
use Rattle.std.specs.Option.{is_some}
use Rattle.std.specs.Str.{bytes_eq}
use Rattle.std.proofs.lemmas.List.Elements.{All-nil}
use Rattle.std.proofs.lemmas.Slice.Eq.{bytes_eq-Decides}
use Rattle.arz_json.specs.Look.{text_in, text_step, list_in, object_in, object_step, member_in, items_at}
use Rattle.arz_json.specs.Pointer.{member_named}
use Rattle.arz_json.specs.declared.Json.{Json}
use Rattle.arz_json.specs.declared.tree.Json.{out-Json}
use Rattle.arz_json.specs.declared.tree.Json.TheOpen.{Json-F}
use Rattle.arz_json.specs.declared.Member.{Member}
use Rattle.arz_json.specs.declared.Token.{Token}
use Rattle.arz_json.specs.declared.Token.TheVariants.{Name}
use Rattle.arz_rules.specs.declared.kinds.Kind.{Kind}
use Rattle.arz_rules.specs.declared.forms.Others.TheVariants.{Are}
use Rattle.arz_rules.specs.Kinds.{form_of}
use Rattle.arz_rules.specs.Misses.{Misses, misses, level_in, chosen, shape_misses, object_misses, member_misses, named_misses, has_kind, has_name, is_complete, is_text, is_text_that, is_word, is_object, are_none}
use Rattle.arz_rules.specs.Place.{here_unless}
use Rattle.arz_rules.specs.Shapes.{Row, must, may}
use Rattle.arz_rules.specs.Sites.{at, in_member}
use Rattle.arz_rules.specs.Sets.{bad_text, unless}
use Rattle.arz_rules.proofs.Levels.{misses_level}
use Rattle.arz_sites.specs.Sites.{only}
use Rattle.arz_contents.specs.Contents.{no_object}
use Rattle.arz_sites.specs.declared.checks.Wanted.{Wanted}
use Rattle.arz_sites.specs.Wants.{fits as fits_kind}
use Rattle.arz_rules.specs.declared.forms.Size.TheVariants.{Any}
use Rattle.arz_bundle.proofs.KindFacts.{left, right, none-left, none-right, none-under, fits, level, member-met, named-there, items-of, item-met}

-- ---- the kind of a criterion

abbrev member_of : List ℕ → Option (List Member) → Option Json
member_of name o = option_and_then (λ (ms : List Member). member_named ms name) o

-- with a type but `simple` it has a context
abbrev IsTyped : Option (List Member) → Json → Type 0
IsTyped o v = (misses v Kind.SimpleType ≡ []) ⊎ ((misses v Kind.CriterionType ≡ []) × (u : Json) × (member_of (codes "context") o ≡ Some u) × (misses u Kind.Text ≡ []))

abbrev IsShaped : Option (List Member) → Type 0
IsShaped o = (member_of (codes "type") o ≡ None) ⊎ ((v : Json) × (member_of (codes "type") o ≡ Some v) × IsTyped o v)

abbrev kind_is : Option Json → Kind → Bool
kind_is None kind = false
kind_is (Some v) kind = are_none (misses v kind)

kind-by : (b : Bool) (v : Json) (o : Option Json) (kind : Kind) (other : Bool) → other ≡ kind_is o kind → cond b (are_none (misses v kind)) other ≡ kind_is (cond b (Some v) o) kind
kind-by true v o kind other e = refl
kind-by false v o kind other e = e

kind-named : (ms : List Member) (name : List ℕ) (kind : Kind) → has_kind (named_misses ms) name kind ≡ kind_is (member_named ms name) kind
kind-named [] name kind = refl
kind-named (m ∷ ms) name kind = kind-by (bytes_eq m.name name) m.value (member_named ms name) kind (has_kind (named_misses ms) name kind) (kind-named ms name kind)

anything : (v : Json) → are_none (misses v Kind.Anything) ≡ true
anything v = ap (λ (f : Misses). are_none (f Kind.Anything)) (misses_level v)

abbrev more_of_criterion : List Row
more_of_criterion = may (codes "type") Kind.CriterionType ∷ []

abbrev rows_of_criterion : List Row
rows_of_criterion = must (codes "condition") Kind.Text ∷ must (codes "context") Kind.Text ∷ more_of_criterion

abbrev Meets : List Member → Kind → Type 0
Meets ms kind = shape_misses (form_of kind) (level_in (Json-F.Object ms)) ≡ []

with-context : (ms : List Member) (v : Json) → member_named ms (codes "type") ≡ Some v → Meets ms Kind.ContextCriterion → IsTyped (Some ms) v
with-context ms v named e =
    let names = named_misses ms in
    let complete = fits (is_complete rows_of_criterion names) (none-left (here_unless (is_complete rows_of_criterion names)) (member_misses rows_of_criterion (Are Kind.Anything) names) e) in
    let met = none-right (here_unless (is_complete rows_of_criterion names)) (member_misses rows_of_criterion (Are Kind.Anything) names) e in
    let there = named-there ms (codes "context")
    (left (has_name names (codes "context")) (is_complete more_of_criterion names)
    (right (has_name names (codes "condition")) (has_name names (codes "context") && is_complete more_of_criterion names) complete)) in
    inr (member-met rows_of_criterion (Are Kind.Anything) ms (codes "type") v met named, there.0, there.1, member-met rows_of_criterion (Are Kind.Anything) ms (codes "context") there.0 met there.1)

abbrev chosen_by : Bool → Bool → Kind
chosen_by simple typed = cond simple Kind.PlainCriterion (cond typed Kind.ContextCriterion Kind.PlainCriterion)

typed-by : (ms : List Member) (v : Json) (ps : List (List Token)) → member_named ms (codes "type") ≡ Some v → misses v Kind.SimpleType ≡ ps
    → Meets ms (chosen_by (are_none ps) true) → IsTyped (Some ms) v
typed-by ms v [] named is e = inl is
typed-by ms v (p ∷ ps) named is e = with-context ms v named e

shaped-by : (ms : List Member) (o : Option Json) → member_named ms (codes "type") ≡ o → Meets ms (chosen_by (kind_is o Kind.SimpleType) (kind_is o Kind.Anything)) → IsShaped (Some ms)
shaped-by ms None named e = inl named
shaped-by ms (Some v) named e =
    inr (v, named, typed-by ms v (misses v Kind.SimpleType) named refl (subst (λ b. Meets ms (chosen_by (are_none (misses v Kind.SimpleType)) b)) (anything v) e))

shaped-at : (x : Json-F Json Member) → shape_misses (form_of (chosen Kind.Criterion (level_in x))) (level_in x) ≡ [] → IsShaped (object_step x)
shaped-at (Json-F.Object ms) e =
    let names = named_misses ms in
    shaped-by ms (member_named ms (codes "type")) refl
    (subst (λ b. Meets ms (chosen_by (kind_is (member_named ms (codes "type")) Kind.SimpleType) b)) (kind-named ms (codes "type") Kind.Anything)
    (subst (λ b. Meets ms (chosen_by b (has_kind names (codes "type") Kind.Anything))) (kind-named ms (codes "type") Kind.SimpleType) e))
shaped-at Json-F.Null e = absurd (cc)
shaped-at (Json-F.Flag b) e = absurd (cc)
shaped-at (Json-F.Int z) e = absurd (cc)
shaped-at (Json-F.Text s) e = absurd (cc)
shaped-at (Json-F.List js) e = absurd (cc)
shaped-at Json-F.Opaque e = absurd (cc)

shaped : (c : Json) → misses c Kind.Criterion ≡ [] → IsShaped (object_in c)
shaped c e = shaped-at (out-Json c) (level c Kind.Criterion e)

-- ---- texts

text-at : (x : Json-F Json Member) → here_unless (is_text (level_in x)) ≡ [] → (s : List ℕ) × (text_step x ≡ Some s)
text-at (Json-F.Text s) e = (s, refl)
text-at Json-F.Null e = absurd (cc)
text-at (Json-F.Flag b) e = absurd (cc)
text-at (Json-F.Int z) e = absurd (cc)
text-at (Json-F.List js) e = absurd (cc)
text-at (Json-F.Object ms) e = absurd (cc)
text-at Json-F.Opaque e = absurd (cc)

text-met : (v : Json) → misses v Kind.Text ≡ [] → (s : List ℕ) × (text_in v ≡ Some s)
text-met v e = text-at (out-Json v) (level v Kind.Text e)

or-cases : (a b : Bool) → (a || b) ≡ true → (a ≡ true) ⊎ (b ≡ true)
or-cases true b e = inl refl
or-cases false b e = inr e

or-false : (b : Bool) → (b || false) ≡ true → b ≡ true
or-false true e = refl
or-false false e = absurd (cc)

-- a text of one of some words, or an object
abbrev IsWord : List (List ℕ) → Json-F Json Member → Type 0
IsWord words x = (s : List ℕ) × (text_step x ≡ Some s) × (is_word words s ≡ true)

word-at : (words : List (List ℕ)) (x : Json-F Json Member) → here_unless (is_text_that (is_word words) (level_in x)) ≡ [] → IsWord words x
word-at words (Json-F.Text s) e = (s, refl, fits (is_word words s) e)
word-at words Json-F.Null e = absurd (cc)
word-at words (Json-F.Flag b) e = absurd (cc)
word-at words (Json-F.Int z) e = absurd (cc)
word-at words (Json-F.List js) e = absurd (cc)
word-at words (Json-F.Object ms) e = absurd (cc)
word-at words Json-F.Opaque e = absurd (cc)

word-or-object : (words : List (List ℕ)) (x : Json-F Json Member) → here_unless (is_text_that (is_word words) (level_in x) || is_object (level_in x)) ≡ []
    → ((ms : List Member) × (object_step x ≡ Some ms)) ⊎ IsWord words x
word-or-object words (Json-F.Object ms) e = inl (ms, refl)
word-or-object words (Json-F.Text s) e = inr (s, refl, or-false (is_word words s) (fits (is_word words s || false) e))
word-or-object words Json-F.Null e = absurd (cc)
word-or-object words (Json-F.Flag b) e = absurd (cc)
word-or-object words (Json-F.Int z) e = absurd (cc)
word-or-object words (Json-F.List js) e = absurd (cc)
word-or-object words Json-F.Opaque e = absurd (cc)

same-text : (a b : List ℕ) → bytes_eq a b ≡ true → b ≡ a
same-text a b e = sym ((bytes_eq-Decides a b).0 e)

simple-text : (s : List ℕ) → is_word (codes "simple" ∷ []) s ≡ true → s ≡ codes "simple"
simple-text s e = same-text (codes "simple") s (or-false (bytes_eq (codes "simple") s) e)

-- ---- of a type that is read, with a context where one is wanted

-- a criterion with this type and context
abbrev pub IsFit : (kind : List ℕ) → (context : Option (List ℕ)) → Type 0
IsFit kind context = (kind ≡ codes "simple") ⊎ (((kind ≡ codes "regex") ⊎ (kind ≡ codes "jsonpath")) × (s : List ℕ) × (context ≡ Some s))

abbrev types : List (List ℕ)
types = codes "simple" ∷ codes "regex" ∷ codes "jsonpath" ∷ codes "xpath" ∷ []

not-both : (b : Bool) → not b ≡ true → b ≡ true → ⊥
not-both true e f = absurd (cc)
not-both false e f = absurd (cc)

fit-kind : (s : List ℕ) (context : Option (List ℕ)) (t : List ℕ) → context ≡ Some t → not (bytes_eq s (codes "xpath")) ≡ true → is_word types s ≡ true → IsFit s context
fit-kind s context t is other e = first (or-cases (bytes_eq (codes "simple") s) _ e)
  where
    last : bytes_eq (codes "xpath") s ≡ true → IsFit s context
    last x = absurd (not-both (bytes_eq s (codes "xpath")) other ((bytes_eq-Decides s (codes "xpath")).1 (same-text (codes "xpath") s x)))

    third : (bytes_eq (codes "jsonpath") s ≡ true) ⊎ ((bytes_eq (codes "xpath") s || false) ≡ true) → IsFit s context
    third (inl x) = inr (inr (same-text (codes "jsonpath") s x), t, is)
    third (inr x) = last (or-false (bytes_eq (codes "xpath") s) x)

    second : (bytes_eq (codes "regex") s ≡ true) ⊎ ((bytes_eq (codes "jsonpath") s || (bytes_eq (codes "xpath") s || false)) ≡ true) → IsFit s context
    second (inl x) = inr (inl (same-text (codes "regex") s x), t, is)
    second (inr x) = third (or-cases (bytes_eq (codes "jsonpath") s) (bytes_eq (codes "xpath") s || false) x)

    first : (bytes_eq (codes "simple") s ≡ true) ⊎ ((bytes_eq (codes "regex") s || (bytes_eq (codes "jsonpath") s || (bytes_eq (codes "xpath") s || false))) ≡ true) → IsFit s context
    first (inl x) = inl (same-text (codes "simple") s x)
    first (inr x) = second (or-cases (bytes_eq (codes "regex") s) (bytes_eq (codes "jsonpath") s || (bytes_eq (codes "xpath") s || false)) x)

abbrev pub text_of : Option Json → Option (List ℕ)
text_of o = option_and_then text_in o

abbrev pub kind_in : Option Json → List ℕ
kind_in o = unwrap_or (text_of o) (codes "simple")

-- rules 10 and 11 say nothing of this type
abbrev IsTaken : Option Json → Type 0
IsTaken o = (in_member (bad_text (fits_kind Wanted.NotXpath)) (codes "type") o ≡ []) × (in_member no_object (codes "type") o ≡ [])

object-refused : (v : Json) (ms : List Member) → no_object v ≡ [] → object_in v ≡ Some ms → ⊥
object-refused v ms e is = not-both (is_some (object_in v)) (fits (not (is_some (object_in v))) e) (ap (λ (o : Option (List Member)). is_some o) is)

fit-typed : (o : Option (List Member)) (v : Json) → IsTyped o v → IsTaken (Some v) → IsFit (kind_in (Some v)) (text_of (member_of (codes "context") o))
fit-typed o v (inl e) taken =
    let word = word-at (codes "simple" ∷ []) (out-Json v) (level v Kind.SimpleType e) in
    inl (ap (λ (t : Option (List ℕ)). unwrap_or t (codes "simple")) word.1 ∙ simple-text word.0 word.2)
fit-typed o v (inr (e, u, named, text)) taken = by (word-or-object types (out-Json v) (level v Kind.CriterionType e))
  where
    by : ((ms : List Member) × (object_in v ≡ Some ms)) ⊎ IsWord types (out-Json v) → IsFit (kind_in (Some v)) (text_of (member_of (codes "context") o))
    by (inl object) = absurd (object-refused v object.0 (none-under (Name (codes "type")) (no_object v) taken.1) object.1)
    by (inr word) =
        let context = text-met u text in
        let other = fits (not (bytes_eq word.0 (codes "xpath")))
        (subst (λ t. unless (fits_kind Wanted.NotXpath) t ≡ []) word.1 (none-under (Name (codes "type")) (bad_text (fits_kind Wanted.NotXpath) v) taken.0)) in
        subst (λ (t : Option (List ℕ)). IsFit (unwrap_or t (codes "simple")) (text_of (member_of (codes "context") o))) (sym word.1)
        (fit-kind word.0 (text_of (member_of (codes "context") o)) context.0 (ap text_of named ∙ context.1) other word.2)

fit-shaped : (o : Option (List Member)) → IsShaped o → IsTaken (member_of (codes "type") o) → IsFit (kind_in (member_of (codes "type") o)) (text_of (member_of (codes "context") o))
fit-shaped o (inl none) taken = inl (ap kind_in none)
fit-shaped o (inr (v, named, typed)) taken =
    subst (λ p. IsFit (kind_in p) (text_of (member_of (codes "context") o))) (sym named) (fit-typed o v typed (subst IsTaken named taken))

pub fit-criterion : (c : Json) → misses c Kind.Criterion ≡ [] → at (only (codes "type")) (bad_text (fits_kind Wanted.NotXpath)) c ≡ [] → at (only (codes "type")) no_object c ≡ []
    → IsFit (kind_in (member_in (codes "type") c)) (text_of (member_in (codes "context") c))
fit-criterion c met kind object = fit-shaped (object_in c) (shaped c met) (kind, object)

-- ---- the criteria of a step meet their kind

abbrev after_criteria : List Row
after_criteria =
    may (codes "onSuccess") Kind.SuccessActions
    ∷ may (codes "onFailure") Kind.FailureActions
    ∷ may (codes "requestBody") Kind.RequestBody
    ∷ may (codes "outputs") Kind.TextMap
    ∷ []

abbrev rows_of_step : Kind → List Row
rows_of_step parameters =
    must (codes "stepId") Kind.Text
    ∷ may (codes "operationId") Kind.Text
    ∷ may (codes "operationPath") Kind.Text
    ∷ may (codes "workflowId") Kind.Text
    ∷ may (codes "parameters") parameters
    ∷ may (codes "successCriteria") Kind.Criteria
    ∷ after_criteria

abbrev AreMet : Option Json → Type 0
AreMet o = All (λ c. misses c Kind.Criterion ≡ []) (unwrap_or (option_and_then list_in o) [])

criteria-met : (v : Json) → misses v Kind.Criteria ≡ [] → AreMet (Some v)
criteria-met v e =
    let has = items-of Any Kind.Criterion (out-Json v) (level v Kind.Criteria e) in
    subst (λ (o : Option (List Json)). All (λ c. misses c Kind.Criterion ≡ []) (unwrap_or o [])) (sym has.are) (λ k d lt. item-met Kind.Criterion 0 has.items k d has.met lt)

if-there : (o : Option Json) → ((v : Json) → o ≡ Some v → misses v Kind.Criteria ≡ []) → AreMet o
if-there None h = All-nil (λ c. misses c Kind.Criterion ≡ [])
if-there (Some v) h = criteria-met v (h v refl)

of-rows : (parameters : Kind) (ms : List Member) → object_misses (rows_of_step parameters) (Are Kind.Anything) (level_in (Json-F.Object ms)) ≡ [] → AreMet (member_of (codes "successCriteria") (Some ms))
of-rows parameters ms e =
    let rows = rows_of_step parameters in
    let met = none-right (here_unless (is_complete rows (named_misses ms))) (member_misses rows (Are Kind.Anything) (named_misses ms)) e in
    if-there (member_named ms (codes "successCriteria")) (λ v named. member-met rows (Are Kind.Anything) ms (codes "successCriteria") v met named)

step-by : (b : Bool) (ms : List Member) → Meets ms (cond b Kind.FlowStep Kind.CallStep) → AreMet (member_of (codes "successCriteria") (Some ms))
step-by true ms e = of-rows Kind.FlowParameters ms e
step-by false ms e = of-rows Kind.CallParameters ms e

step-at : (x : Json-F Json Member) → shape_misses (form_of (chosen Kind.Step (level_in x))) (level_in x) ≡ [] → AreMet (member_of (codes "successCriteria") (object_step x))
step-at (Json-F.Object ms) e = step-by (has_kind (named_misses ms) (codes "workflowId") Kind.Anything) ms e
step-at Json-F.Null e = absurd (cc)
step-at (Json-F.Flag b) e = absurd (cc)
step-at (Json-F.Int z) e = absurd (cc)
step-at (Json-F.Text s) e = absurd (cc)
step-at (Json-F.List js) e = absurd (cc)
step-at Json-F.Opaque e = absurd (cc)

-- of each criterion of a step
abbrev pub OfStep : (Json → Type 0) → Json → Type 0
OfStep P step = All P (items_at (codes "successCriteria") step)

pub step-criteria : (step : Json) → misses step Kind.Step ≡ [] → OfStep (λ c. misses c Kind.Criterion ≡ []) step
step-criteria step e = step-at (out-Json step) (level step Kind.Step e)
