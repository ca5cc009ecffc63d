-- Criteria as functions of their texts: the laws that tie them to the grammars.
use Rattle.std.proofs.Common.{◌≡◌, ◌≢◌, ◌⊎◌, inl, inr, ℕ, List, length, Bool, true, false, ◌&&◌, ◌||◌, cond, codes, Option, Some, None, option_and_then, Result, Ok, Err, IfOk, IfErr, refl, sym, ap, subst, ◌∙◌}
use Rattle.std.specs.Option.{IsSome, is_some}
use Rattle.std.specs.declared.alloc.AllocError.{AllocError}
use Rattle.std.proofs.lemmas.Bool.{cases_Bool, false_from_ne_true}
use Rattle.std.proofs.lemmas.Slice.Eq.{bytes_eq-Decides}
use Rattle.arz_json.specs.declared.tree.Json.{Json}
use Rattle.arz_rx.specs.Patterns.{PatternsView}
use Rattle.arz_query.specs.Answers.{answer, fault_of, query_of, Spells as SpellsQuery, Faults, IsNone, HasFlaw}
use Rattle.arz_query.specs.Reading.{reading as query_reading}
use Rattle.arz_query.specs.Words.{Read, chosen}
use Rattle.arz_query.specs.declared.fault.PathFault.{PathFault}
use Rattle.arz_query.specs.declared.fault.PathFault.TheVariants as path_fault
use Rattle.arz_query.specs.declared.query.Segment.{Segment}
use Rattle.arz_query.proofs.Contract.{Answer, answer-read, answer-nested, answers_same, spells-if}
use Rattle.arz_query.proofs.SoundTerms.{reading_sound as query_sound}
use Rattle.arz_path.specs.Outcome.{given}
use Rattle.arz_expr.specs.Reading.{reading as expression_of}
use Rattle.arz_expr.specs.Values.{value_in}
use Rattle.arz_expr.specs.declared.syntax.Base.{Base}
use Rattle.arz_expr.specs.declared.syntax.Expr.{Expr}
use Rattle.arz_expr.proofs.Endings.{reading-complete}
use Rattle.arz_cond.specs.Grammar.{IsCondition}
use Rattle.arz_cond.specs.Reading.{reading}
use Rattle.arz_cond.specs.Criteria.{Criterion, IsKind, kind_of, IsContext, IsNoContext, Spells, IsRead, Refuses, criterion_at}
use Rattle.arz_cond.specs.Holding.{MeansOf, Answers, Says, is_found, is_selected}
use Rattle.arz_cond.specs.Outcomes.{Patterned, condition_in, given_by, query_in, context_in, context_value, is_kind, by, is_met, is_chosen, outcome, text_fault, query_fault, contextual_fault, fault_in, can_be_read, tree_fault, MeansItsOutcome, ReadsUnlessFault, RefusesByItsFault}
use Rattle.arz_cond.specs.Parsing.{ToldAs}
use Rattle.arz_cond.specs.declared.cause.CondFault.{CondFault}
use Rattle.arz_cond.specs.declared.fault.TestFault.{TestFault}
use Rattle.arz_cond.specs.declared.fault.TestFault.TheVariants as fault
use Rattle.arz_cond.specs.declared.term.Term.{Term}
use Rattle.arz_cond.specs.declared.test.Parsed.{Parsed}
use Rattle.arz_cond.specs.declared.test.Parsed.TheVariants.{Simple, Regex, Path}
use Rattle.arz_cond.proofs.Sound.{reading_sound}
use Rattle.arz_cond.proofs.Complete.{condition_given}
use Rattle.arz_cond.proofs.Contract.{is_context}

-- ---- types

kind_if : (kind : List ℕ) (c : Criterion) → c.kind ≡ kind → is_kind kind c ≡ true
kind_if kind c e = (bytes_eq-Decides c.kind kind).1 e

only_if_kind : (kind : List ℕ) (c : Criterion) → is_kind kind c ≡ true → c.kind ≡ kind
only_if_kind kind c e = (bytes_eq-Decides c.kind kind).0 e

not_kind : (kind : List ℕ) (c : Criterion) → c.kind ≢ kind → is_kind kind c ≡ false
not_kind kind c n = false_from_ne_true (is_kind kind c) (λ h. n (only_if_kind kind c h))

-- a type that is one isn't another
other_kind : (kind other : List ℕ) (c : Criterion) → c.kind ≡ kind → kind ≢ other → is_kind other c ≡ false
other_kind kind other c e n = not_kind other c (λ h. n (sym e ∙ h))

regex_not_simple : codes "regex" ≢ codes "simple"
regex_not_simple h = cc

path_not_simple : codes "jsonpath" ≢ codes "simple"
path_not_simple h = cc

path_not_regex : codes "jsonpath" ≢ codes "regex"
path_not_regex h = cc

regex_not_path : codes "regex" ≢ codes "jsonpath"
regex_not_path h = cc

pub read_kind : (c : Criterion) → IsRead c → IsKind c.kind
read_kind c read = go read.parsed read.kind
  where
    go : (p : Parsed) → c.kind ≡ kind_of p → IsKind c.kind
    go (Simple t) k = inl k
    go (Regex e) k = inr (inl k)
    go (Path text e) k = inr (inr k)

some_context : (context : Option (List ℕ)) (e : Expr) → IsContext context e → IsSome context
some_context context e is = subst (λ (o : Option (List ℕ)). IsSome o) (sym is.1.0) refl

pub read_context : (c : Criterion) → IsRead c → c.kind ≢ codes "simple" → IsSome c.context
read_context c read n = go read.parsed read.kind read.spells
  where
    go : (p : Parsed) → c.kind ≡ kind_of p → Spells c p → IsSome c.context
    go (Simple t) k s = absurd (n k)
    go (Regex e) k s = some_context c.context e s
    go (Path text e) k s = some_context c.context e s.context

-- ---- contexts

context_given : (context : Option (List ℕ)) (e : Expr) → IsContext context e → context_in context ≡ Some e
context_given context e is = ap (option_and_then expression_of) is.1.0 ∙ reading-complete is.0 e is.1.1

context_spelled : (context : Option (List ℕ)) (e : Expr) → context_in context ≡ Some e → IsContext context e
context_spelled None e h = let none : let o : Option Expr = None in o ≡ Some e = h in absurd cc
context_spelled (Some text) e h = is_context (Some text) text e refl h

no_expression : (context : Option (List ℕ)) → IsNoContext context → context_in context ≡ None
no_expression context n = go (context_in context) refl
  where
    go : (o : Option Expr) → context_in context ≡ o → o ≡ None
    go None k = refl
    go (Some e) k = absurd (n e (context_spelled context e k))

-- ---- conditions

no_reading : (f : Bool) (text : List ℕ) → ((t : Term) → IsCondition f text t → ⊥) → reading f text ≡ None
no_reading f text n = go (reading f text) refl
  where
    go : (o : Option Term) → reading f text ≡ o → o ≡ None
    go None k = refl
    go (Some t) k = absurd (n t (reading_sound f text t k))

-- ---- queries

answer_spelled : (text : List ℕ) (vs : List Segment) → SpellsQuery text vs → answer text ≡ Ok vs
answer_spelled text vs s =
    answer-read text vs s.marks s.read
    ∙ ap (λ o. (let r : Answer = chosen o (λ f. Err (fault_of (length text) f)) (Ok vs) in r)) s.flawless

spelled_answer : (text : List ℕ) (vs : List Segment) → answer text ≡ Ok vs → SpellsQuery text vs
spelled_answer text vs e =
    let P : Answer → Type 0 = λ r. IfOk r (SpellsQuery text) in
    subst P e (spells-if text (answer text) (answers_same (answer text)))

flawed : (text : List ℕ) (e : PathFault) → HasFlaw text e → answer text ≡ Err e
flawed text e f =
    answer-read text f.segments f.marks f.read
    ∙ ap (λ o. (let r : Answer = chosen o (λ f. Err (fault_of (length text) f)) (Ok f.segments) in r)) f.first
    ∙ ap (λ e. (let r : Answer = Err e in r)) f.is

no_query : (text : List ℕ) → IsNone text → answer text ≡ Err path_fault.Syntax
unfolding answer
no_query text n =
    ap (λ t. chosen t (λ at. Err (path_fault.TooNested at)) (chosen (query_reading text) (query_of (length text)) (Err path_fault.Syntax))) n.open_enough
    ∙ go (query_reading text) refl
  where
    go : (o : Option (Read (List Segment))) → query_reading text ≡ o → chosen o (query_of (length text)) (Err path_fault.Syntax) ≡ Err path_fault.Syntax
    go None k = refl
    go (Some all) k = absurd (n.none all.value all.marks (query_sound text all k))

answer_faulted : (text : List ℕ) (e : PathFault) → e ≢ path_fault.Memory → Faults text e → answer text ≡ Err e
answer_faulted text path_fault.Syntax n f = no_query text f
answer_faulted text (path_fault.IllTyped at) n f = flawed text (path_fault.IllTyped at) f
answer_faulted text (path_fault.Fraction at) n f = flawed text (path_fault.Fraction at) f
answer_faulted text (path_fault.IntegerRange at) n f = flawed text (path_fault.IntegerRange at) f
answer_faulted text (path_fault.TooNested at) n f = answer-nested text at f
answer_faulted text path_fault.Memory n f = absurd (n refl)

-- ---- what a criterion comes to

outcome_simple : (told : Patterned) (found : Base → Option Json) (c : Criterion) → is_kind (codes "simple") c ≡ true →
    outcome told found c ≡ given (is_met found (condition_in c.condition))
unfolding outcome
outcome_simple told found c h =
    ap (λ b. cond b (given (is_met found (condition_in c.condition))) (cond (is_kind (codes "regex") c) (is_found told c.condition (context_value found c)) (is_chosen told (query_in c.condition) (context_value found c)))) h

outcome_regex : (told : Patterned) (found : Base → Option Json) (c : Criterion) → c.kind ≡ codes "regex" →
    outcome told found c ≡ is_found told c.condition (context_value found c)
unfolding outcome
outcome_regex told found c e =
    ap (λ b. cond b (given (is_met found (condition_in c.condition))) (cond (is_kind (codes "regex") c) (is_found told c.condition (context_value found c)) (is_chosen told (query_in c.condition) (context_value found c))))
    (other_kind (codes "regex") (codes "simple") c e regex_not_simple)
    ∙ ap (λ b. cond b (is_found told c.condition (context_value found c)) (is_chosen told (query_in c.condition) (context_value found c)))
    (kind_if (codes "regex") c e)

outcome_path : (told : Patterned) (found : Base → Option Json) (c : Criterion) → c.kind ≡ codes "jsonpath" →
    outcome told found c ≡ is_chosen told (query_in c.condition) (context_value found c)
unfolding outcome
outcome_path told found c e =
    ap (λ b. cond b (given (is_met found (condition_in c.condition))) (cond (is_kind (codes "regex") c) (is_found told c.condition (context_value found c)) (is_chosen told (query_in c.condition) (context_value found c))))
    (other_kind (codes "jsonpath") (codes "simple") c e path_not_simple)
    ∙ ap (λ b. cond b (is_found told c.condition (context_value found c)) (is_chosen told (query_in c.condition) (context_value found c)))
    (other_kind (codes "jsonpath") (codes "regex") c e path_not_regex)

-- a query asks what is told, and passes over the count
same_selected : (vs : List Segment) (p : PatternsView) (v : Option Json) → is_selected vs (by p.told) v ≡ is_selected vs p v
same_selected vs p None = refl
same_selected vs p (Some root) = refl

pub means_outcome : MeansItsOutcome
means_outcome c found p read = record { parsed = read.parsed; kind = read.kind; spells = read.spells; meaning = go read.parsed read.kind read.spells }
  where
    go : (q : Parsed) → c.kind ≡ kind_of q → Spells c q → MeansOf q c.condition found p (outcome p.told found c)
    go (Simple t) k s = outcome_simple p.told found c (kind_if (codes "simple") c k) ∙ ap (λ o. given (is_met found o)) (condition_given s)
    go (Regex e) k s =
        outcome_regex p.told found c k
        ∙ ap (λ o. is_found p.told c.condition (option_and_then (value_in found) o)) (context_given c.context e s)
    go (Path text e) k s =
        let vs = s.spelled.segments in (
          vs,
          subst (λ (t : List ℕ). SpellsQuery t vs) (sym s.query) s.spelled.spells,
          outcome_path p.told found c k
              ∙ ap (λ r. is_chosen p.told (given_by r) (context_value found c)) (answer_spelled c.condition vs s.spelled.spells)
              ∙ ap (λ o. is_selected vs (by p.told) (option_and_then (value_in found) o)) (context_given c.context e s.context)
              ∙ same_selected vs p (value_in found e),
        )

pub simple_is_given : (told : Patterned) (found : Base → Option Json) (c : Criterion) → is_kind (codes "simple") c ≡ true → (b : Bool) × (outcome told found c ≡ given b)
simple_is_given told found c h = (is_met found (condition_in c.condition), outcome_simple told found c h)

-- what is said of a criterion that was read is said of what the function gives
pub answers_outcome : (c : Criterion) (found : Base → Option Json) (r : Result Bool CondFault) (old new : PatternsView) → IsRead c → Says c found r old new → Answers r (outcome old.told found c) old new
answers_outcome c found r old new read says = says (outcome old.told found c) (means_outcome c found old read)

-- ---- why one can't be read

fault_simple : (c : Criterion) → c.kind ≡ codes "simple" → fault_in c ≡ text_fault c.condition
unfolding fault_in
fault_simple c e = ap (λ b. cond b (text_fault c.condition) (contextual_fault c)) (kind_if (codes "simple") c e)

fault_contextual : (c : Criterion) → c.kind ≢ codes "simple" → fault_in c ≡ contextual_fault c
unfolding fault_in
fault_contextual c n = ap (λ b. cond b (text_fault c.condition) (contextual_fault c)) (not_kind (codes "simple") c n)

-- with a context that is that or none
abbrev with_context : Criterion → Option Expr → Option TestFault
with_context c o = cond (is_some o) (cond (is_kind (codes "jsonpath") c) (query_fault (answer c.condition)) None) (Some fault.BadExpression)

fault_regex : (c : Criterion) (e : Expr) → c.kind ≡ codes "regex" → context_in c.context ≡ Some e → fault_in c ≡ None
fault_regex c e k h =
    fault_contextual c (λ s. regex_not_simple (sym k ∙ s))
    ∙ ap (with_context c) h
    ∙ ap (λ b. cond b (query_fault (answer c.condition)) None) (other_kind (codes "regex") (codes "jsonpath") c k regex_not_path)

fault_path : (c : Criterion) (e : Expr) → c.kind ≡ codes "jsonpath" → context_in c.context ≡ Some e → fault_in c ≡ query_fault (answer c.condition)
fault_path c e k h =
    fault_contextual c (λ s. path_not_simple (sym k ∙ s))
    ∙ ap (with_context c) h
    ∙ ap (λ b. cond b (query_fault (answer c.condition)) None) (kind_if (codes "jsonpath") c k)

fault_context : (c : Criterion) → c.kind ≢ codes "simple" → context_in c.context ≡ None → fault_in c ≡ Some fault.BadExpression
fault_context c n h = fault_contextual c n ∙ ap (with_context c) h

abbrev text_as : Option Term → Option Term → Option TestFault
text_as o f = chosen o (λ t. None) (Some (chosen f (λ t. fault.Fraction) fault.BadCondition))

fault_text : (c : Criterion) (o f : Option Term) → c.kind ≡ codes "simple" → reading false c.condition ≡ o → reading true c.condition ≡ f → fault_in c ≡ text_as o f
fault_text c o f k d e = fault_simple c k ∙ ap (λ o. text_as o (reading true c.condition)) d ∙ ap (λ f. text_as o f) e

read_no_fault : (c : Criterion) → IsRead c → fault_in c ≡ None
read_no_fault c read = go read.parsed read.kind read.spells
  where
    go : (p : Parsed) → c.kind ≡ kind_of p → Spells c p → fault_in c ≡ None
    go (Simple t) k s = fault_text c (Some t) (reading true c.condition) k (condition_given s) refl
    go (Regex e) k s = fault_regex c e k (context_given c.context e s)
    go (Path text e) k s =
        fault_path c e k (context_given c.context e s.context)
        ∙ ap query_fault (answer_spelled c.condition s.spelled.segments s.spelled.spells)

simple_read : (c : Criterion) → c.kind ≡ codes "simple" → fault_in c ≡ None → IsRead c
simple_read c k h = go (reading false c.condition) refl
  where
    go : (o : Option Term) → reading false c.condition ≡ o → IsRead c
    go (Some t) e = record { parsed = Simple t; kind = k; spells = reading_sound false c.condition t e }
    go None e = let none : text_as None (reading true c.condition) ≡ None = sym (fault_text c None (reading true c.condition) k e refl) ∙ h in absurd cc

regex_read : (c : Criterion) → c.kind ≡ codes "regex" → fault_in c ≡ None → IsRead c
regex_read c k h = go (context_in c.context) refl
  where
    go : (o : Option Expr) → context_in c.context ≡ o → IsRead c
    go (Some e) i = record { parsed = Regex e; kind = k; spells = context_spelled c.context e i }
    go None i =
        let none : let o : Option TestFault = Some fault.BadExpression in o ≡ None = sym (fault_context c (λ s. regex_not_simple (sym k ∙ s)) i) ∙ h in
        absurd cc

path_read : (c : Criterion) → c.kind ≡ codes "jsonpath" → fault_in c ≡ None → IsRead c
path_read c k h = go (context_in c.context) refl (answer c.condition) refl
  where
    go : (o : Option Expr) → context_in c.context ≡ o → (r : Answer) → answer c.condition ≡ r → IsRead c
    go (Some e) i (Ok vs) a =
        record {
          parsed = Path c.condition e;
          kind = k;
          spells = record { query = refl; spelled = record { segments = vs; spells = spelled_answer c.condition vs a }; context = context_spelled c.context e i };
        }
    go (Some e) i (Err f) a =
        let none : let o : Option TestFault = Some (fault.BadPath f) in o ≡ None = sym (fault_path c e k i ∙ ap query_fault a) ∙ h in
        absurd cc
    go None i r a =
        let none : let o : Option TestFault = Some fault.BadExpression in o ≡ None = sym (fault_context c (λ s. path_not_simple (sym k ∙ s)) i) ∙ h in
        absurd cc

no_fault_read : (c : Criterion) → IsKind c.kind → fault_in c ≡ None → IsRead c
no_fault_read c (inl k) h = simple_read c k h
no_fault_read c (inr (inl k)) h = regex_read c k h
no_fault_read c (inr (inr k)) h = path_read c k h

pub reads_unless_fault : ReadsUnlessFault
reads_unless_fault c kind = (read_no_fault c, no_fault_read c kind)

pub refuses_by_its_fault : RefusesByItsFault
refuses_by_its_fault c fault.Fraction kind n h =
    fault_text c None (Some h.1.term) h.0 (no_reading false c.condition h.1.none) (condition_given h.1.fractional)
refuses_by_its_fault c fault.BadCondition kind n h =
    fault_text c None None h.0 (no_reading false c.condition h.1.none) (no_reading true c.condition h.1.no_fraction)
refuses_by_its_fault c fault.BadExpression kind n h = fault_context c h.0 (no_expression c.context h.1)
refuses_by_its_fault c (fault.BadPath f) kind n h =
    fault_path c h.1.expression h.0 (context_given c.context h.1.expression h.1.reads)
    ∙ ap query_fault (answer_faulted c.condition f h.1.told h.1.fault)
refuses_by_its_fault c fault.Memory kind n h = absurd (n refl)

clash : (c : Criterion) (e : TestFault) → IsRead c → e ≢ fault.Memory → Refuses c e → ⊥
clash c e read n h =
    let none : let o : Option TestFault = None in o ≡ Some e = sym (read_no_fault c read) ∙ refuses_by_its_fault c e (read_kind c read) n h in
    absurd cc

-- of a criterion that can be read nothing but want of memory is told
pub no_fault_but_memory : (c : Criterion) (e : TestFault) → IsRead c → Refuses c e → e ≡ fault.Memory
no_fault_but_memory c fault.Fraction read h = absurd (clash c fault.Fraction read (λ k. cc) h)
no_fault_but_memory c fault.BadCondition read h = absurd (clash c fault.BadCondition read (λ k. cc) h)
no_fault_but_memory c fault.BadExpression read h = absurd (clash c fault.BadExpression read (λ k. cc) h)
no_fault_but_memory c (fault.BadPath f) read h = absurd (clash c (fault.BadPath f) read (λ k. cc) h)
no_fault_but_memory c fault.Memory read h = refl

-- ---- criteria as trees

abbrev can_be : Bool → Bool → Bool → Bool → Bool
can_be s r p x = s || ((r || p) && x)

pub readable_kind : (c : Criterion) → can_be_read c ≡ true → IsKind c.kind
readable_kind c h = go (cases_Bool (is_kind (codes "simple") c)) (cases_Bool (is_kind (codes "regex") c)) (cases_Bool (is_kind (codes "jsonpath") c))
  where
    go : (is_kind (codes "simple") c ≡ true) ⊎ (is_kind (codes "simple") c ≡ false) → (is_kind (codes "regex") c ≡ true) ⊎ (is_kind (codes "regex") c ≡ false) → (is_kind (codes "jsonpath") c ≡ true) ⊎ (is_kind (codes "jsonpath") c ≡ false) → IsKind c.kind
    go (inl s) r p = inl (only_if_kind (codes "simple") c s)
    go (inr s) (inl r) p = inr (inl (only_if_kind (codes "regex") c r))
    go (inr s) (inr r) (inl p) = inr (inr (only_if_kind (codes "jsonpath") c p))
    go (inr s) (inr r) (inr p) =
        let none : false ≡ true =
        sym (ap (λ b. can_be b (is_kind (codes "regex") c) (is_kind (codes "jsonpath") c) (is_some c.context)) s
        ∙ ap (λ b. can_be false b (is_kind (codes "jsonpath") c) (is_some c.context)) r
        ∙ ap (λ b. can_be false false b (is_some c.context)) p) ∙ h in
        absurd cc

and_last : (a b : Bool) → (a && b) ≡ true → b ≡ true
and_last true b h = h
and_last false b h = absurd cc

pub readable_context : (c : Criterion) → can_be_read c ≡ true → c.kind ≢ codes "simple" → IsSome c.context
readable_context c h n =
    and_last (is_kind (codes "regex") c || is_kind (codes "jsonpath") c) (is_some c.context)
    (sym (ap (λ b. can_be b (is_kind (codes "regex") c) (is_kind (codes "jsonpath") c) (is_some c.context)) (not_kind (codes "simple") c n)) ∙ h)

pub unreadable_tree : (j : Json) → can_be_read (criterion_at j) ≡ false → None ≡ tree_fault j
unreadable_tree j h = sym (ap (λ b. cond b (fault_in (criterion_at j)) None) h)

-- of a tree that was read, or not
tree_told : (j : Json) (r : Result Criterion TestFault) (o : Option TestFault) → can_be_read (criterion_at j) ≡ true →
    IfOk r (λ t. t ≡ criterion_at j) → IfOk r IsRead → IfErr r (Refuses (criterion_at j)) → ToldAs r o → o ≡ tree_fault j
tree_told j (Ok t) o h text read refuses is =
    is ∙ sym (ap (λ b. cond b (fault_in (criterion_at j)) None) h ∙ read_no_fault (criterion_at j) (subst IsRead text read))
tree_told j (Err e) o h text read refuses is =
    is.0 ∙ sym (ap (λ b. cond b (fault_in (criterion_at j)) None) h ∙ refuses_by_its_fault (criterion_at j) e (readable_kind (criterion_at j) h) is.1 refuses)

pub told_tree : (j : Json) (r : Result Criterion TestFault) (s : Result (Option TestFault) AllocError) → can_be_read (criterion_at j) ≡ true →
    IfOk r (λ t. t ≡ criterion_at j) → IfOk r IsRead → IfErr r (Refuses (criterion_at j)) → IfOk s (ToldAs r) → IfOk s (λ f. f ≡ tree_fault j)
told_tree j r (Ok o) h text read refuses is = tree_told j r o h text read refuses is
told_tree j r (Err e) h text read refuses is = tt

-- the same texts are the same criterion
pub same_texts : (k l d e : List ℕ) (x y : Option (List ℕ)) → k ≡ l → d ≡ e → x ≡ y →
    (let c : Criterion = record { kind = k; condition = d; context = x } in c) ≡ record { kind = l; condition = e; context = y }
same_texts k l d e x y a b c = cc
