-- What the criteria of a step come to.
use Rattle.std.proofs.Common.{◌≡◌, ◌≢◌, ℕ, ◌+◌, ◌<◌, ◌||◌, List, [], ◌∷◌, All, map, length, get_or, drop, drop-cons, add-one, codes, Option, Some, None, Result, Ok, Err, ◌&&◌, Bool, true, false, if◌then◌else◌, refl, sym, ap, ap₂, subst, ◌∙◌, arith}
use Rattle.std.specs.Prelude.{not, slice_get}
use Rattle.std.specs.List.{list_any}
use Rattle.std.specs.Option.{is_some, is_none}
use Rattle.std.specs.Result.{IsErrAnd}
use Rattle.std.specs.Str.{bytes_eq}
use Rattle.std.proofs.lemmas.List.{get_or-map}
use Rattle.std.proofs.lemmas.List.Elements.{All-get_or, All-map}
use Rattle.std.proofs.lemmas.List.Folds.{list_any_at}
use Rattle.std.proofs.lemmas.Option.{slice_get-get_or}
use Rattle.std.proofs.lemmas.Slice.Eq.{bytes_eq-Decides}
use Rattle.arz_json.specs.declared.Json.{Json}
use Rattle.arz_json.specs.declared.Json.TheVariants.{Null}
use Rattle.arz_world.specs.declared.Reply.{Reply}
use Rattle.arz_rx.specs.Patterns.{PatternsView, Rose}
use Rattle.arz_expr.specs.declared.syntax.Base.{Base}
use Rattle.arz_path.specs.Outcome.{Outcome, given, wide, and_then, Covers}
use Rattle.arz_path.specs.Results.{Asked}
use Rattle.arz_path.proofs.Outcomes.{covers_trans, through, stops}
use Rattle.arz_cond.specs.Criteria.{Criterion, IsRead, Spells, kind_of, criterion_at}
use Rattle.arz_cond.specs.Holding.{Answers, Fails, Says}
use Rattle.arz_cond.specs.Outcomes.{Patterned, is_kind, outcome, can_be_read, fault_in}
use Rattle.arz_cond.specs.declared.cause.CondFault.{CondFault}
use Rattle.arz_cond.specs.declared.cause.CondFault.TheVariants as fault
use Rattle.arz_cond.specs.declared.test.Parsed.{Parsed}
use Rattle.arz_cond.specs.declared.test.Parsed.TheVariants.{Simple, Regex, Path}
use Rattle.arz_cond.proofs.Functions.{answers_outcome, read_kind, readable_kind, reads_unless_fault}
use Rattle.arz_flow.specs.declared.bundle.Bundle.{Bundle}
use Rattle.arz_flow.specs.Documents.{steps_of, criteria_of}
use Rattle.arz_flow.specs.Valid.{IsValid, IsCriterion}
use Rattle.arz_flow.specs.Verdicts.{all_hold, verdict, is_patterned, is_judged, asks_patterns}
use Rattle.arz_machine.specs.Tests.{tests_of, all_met, judged, is_matched, any_matched, is_readable, IsReadable, IsSound}

-- ---- the criteria as they are read say what those of the description say

all_same : (told : Patterned) (found : Base → Option Json) (cs : List Json) → all_met told found (map criterion_at cs) ≡ all_hold told found cs
all_same told found [] = refl
all_same told found (c ∷ cs) =
    ap (λ o. and_then (λ holds. if holds then o else given false) (outcome told found (criterion_at c))) (all_same told found cs)

pub judged_same : (told : Patterned) (found : Base → Option Json) (y : Reply) (cs : List Json) → judged told found y (map criterion_at cs) ≡ verdict told found y cs
judged_same told found y [] = refl
judged_same told found y (c ∷ cs) = all_same told found (c ∷ cs)

-- ---- the criteria in order

-- what the criteria from here on come to
abbrev pub from_here : Patterned → (Base → Option Json) → List Criterion → ℕ → Outcome Bool
from_here told found cs i = all_met told found (drop i cs)

-- what follows a criterion, by whether it holds
abbrev after : Patterned → (Base → Option Json) → List Criterion → Bool → Outcome Bool
after told found cs holds = if holds then all_met told found cs else given false

answered : (c : Criterion) (found : Base → Option Json) (r : Result Bool CondFault) (first old new : PatternsView) → Asked first old → IsRead c → Says c found r old new → Answers r (outcome first.told found c) old new
answered c found r first old new a read says = subst (λ t. Answers r (outcome t found c) old new) a.told (answers_outcome c found r old new read says)

-- why nothing is answered of a part
fails_as : (e : CondFault) (part whole : Outcome Bool) (first old new : PatternsView) → Asked first old → (Covers part wide → Covers whole wide) → Fails e part old new → Fails e whole first new
fails_as fault.TooWide part whole first old new a f h = f h
fails_as fault.Pattern part whole first old new a f h = let k = a.count in omega (arith, h, k)
fails_as fault.Memory part whole first old new a f h = tt

module _ (found : Base → Option Json) (cs : List Criterion) (first old new : PatternsView) (asked : Asked first old) (i : ℕ) (c : Criterion) (lt : i < length cs) (is : c ≡ get_or cs i c) (read : IsRead c)
    (whole : Outcome Bool) (so_far : Covers whole (from_here first.told found cs i)) where
  here : from_here first.told found cs i ≡ and_then (after first.told found (drop (i + 1) cs)) (outcome first.told found c)
  here =
      let parts : drop i cs ≡ get_or cs i c ∷ drop (i + 1) cs = rw add-one (drop-cons cs i c lt) in
      ap (all_met first.told found) parts
      ∙ ap (λ x. all_met first.told found (x ∷ drop (i + 1) cs)) (sym is)

  leads : (o : Outcome Bool) → Covers (and_then (after first.told found (drop (i + 1) cs)) (outcome first.told found c)) o → Covers whole o
  leads o h = covers_trans whole _ o so_far (subst (λ z. Covers z o) (sym here) h)

  -- it holds: the next one is tried
  pub goes_past : (let r : Result Bool CondFault = Ok true in Says c found r old new) → Covers whole (from_here first.told found cs (i + 1))
  goes_past says = leads _ (through (after first.told found (drop (i + 1) cs)) (outcome first.told found c) true (answered c found (Ok true) first old new asked read says))

  -- it doesn't hold
  pub breaks : (let r : Result Bool CondFault = Ok false in Says c found r old new) → Covers whole (given false)
  breaks says = leads _ (through (after first.told found (drop (i + 1) cs)) (outcome first.told found c) false (answered c found (Ok false) first old new asked read says))

  -- nothing is answered
  pub fails_here : (e : CondFault) → (let r : Result Bool CondFault = Err e in Says c found r old new) → Fails e whole first new
  fails_here e says =
      fails_as e (outcome first.told found c) whole first old new asked
      (λ w. leads wide (stops (after first.told found (drop (i + 1) cs)) (outcome first.told found c) w))
      (answered c found (Err e) first old new asked read says)

pub read_at : (cs : List Criterion) (i : ℕ) (c : Criterion) → All IsRead cs → i < length cs → c ≡ get_or cs i c → IsRead c
read_at cs i c all lt is = subst IsRead (sym is) (All-get_or IsRead cs i c lt all)

-- what the exit of a `?` answers
pub exit : (r : Result Bool CondFault) (e : CondFault) (meant : Outcome Bool) (p q : PatternsView) → IsErrAnd r (λ y. y ≡ e) → Fails e meant p q → Answers r meant p q
exit (Ok x) e meant p q h k = absurd h
exit (Err y) e meant p q h k = subst (λ z. Fails z meant p q) (sym h) k

-- ---- criteria of other types than `simple`

unlike : (c : Criterion) → c.kind ≢ codes "simple" → is_matched c ≡ true
unlike c h = by_test (bytes_eq c.kind (codes "simple")) refl
  where
    by_test : (b : Bool) → bytes_eq c.kind (codes "simple") ≡ b → not b ≡ true
    by_test true e = absurd (h ((bytes_eq-Decides c.kind (codes "simple")).0 e))
    by_test false e = refl

-- one of them is of another type
pub matched_at : (cs : List Criterion) (i : ℕ) (c : Criterion) → i < length cs → c ≡ get_or cs i c → c.kind ≢ codes "simple" → any_matched cs ≡ true
matched_at cs i c lt is other = list_any_at is_matched cs i c lt (ap is_matched (sym is) ∙ unlike c other)

matched_same : (cs : List Json) → any_matched (map criterion_at cs) ≡ list_any is_patterned cs
matched_same [] = refl
matched_same (c ∷ cs) = ap (λ b. is_patterned c || b) (matched_same cs)

-- ---- criteria that can be read

and_both : (a b : Bool) → (a && b) ≡ true → (a ≡ true) × (b ≡ true)
and_both true b h = (refl, h)
and_both false b h = absurd (cc)

none_is : {X : Type 0} (o : Option X) → is_none o ≡ true → o ≡ None
none_is None h = refl
none_is (Some x) h = absurd (cc)

readable_is_read : (c : Criterion) → is_readable c ≡ true → IsRead c
readable_is_read c h =
    let both = and_both (can_be_read c) (is_none (fault_in c)) h in
    (reads_unless_fault c (readable_kind c both.0)).1 (none_is (fault_in c) both.1)

or_true : (a b : Bool) → b ≡ true → (a || b) ≡ true
or_true true b h = refl
or_true false b h = h

can_be : (c : Criterion) (parsed : Parsed) → c.kind ≡ kind_of parsed → Spells c parsed → can_be_read c ≡ true
can_be c (Simple t) kind spells = ap (λ b. b || ((is_kind (codes "regex") c || is_kind (codes "jsonpath") c) && is_some c.context)) ((bytes_eq-Decides c.kind (codes "simple")).1 kind)
can_be c (Regex e) kind spells =
    or_true (is_kind (codes "simple") c) _
    (ap₂ (λ a b. (a || is_kind (codes "jsonpath") c) && b) ((bytes_eq-Decides c.kind (codes "regex")).1 kind) (ap is_some spells.1.0))
can_be c (Path q e) kind spells =
    or_true (is_kind (codes "simple") c) _
    (ap₂ (λ a b. a && b) (or_true (is_kind (codes "regex") c) _ ((bytes_eq-Decides c.kind (codes "jsonpath")).1 kind)) (ap is_some spells.context.1.0))

pub read_is_readable : (c : Criterion) → IsRead c → is_readable c ≡ true
read_is_readable c read =
    let none = (reads_unless_fault c (read_kind c read)).0 read in
    ap₂ (λ a b. a && b) (can_be c read.parsed read.kind read.spells) (ap is_none none)

pub sound_of : (b : Bundle) → IsValid b → IsSound b
sound_of b valid = record {
  few = valid.few;
  criteria = λ i d lt. λ k e less. read_is_readable _ (valid.criteria i d lt k e less);
  arazzo = valid.arazzo;
  inputs = valid.inputs;
}

-- ---- the criteria of one step

-- those that were read of a step
pub the_tests : (steps : List Json) (all seen : List (List Criterion)) (i : ℕ) (d : Json) (e tests : List Criterion) → tests ≡ e → e ≡ get_or seen i e → seen ≡ all → all ≡ map tests_of steps → i < length steps → tests ≡ tests_of (get_or steps i d)
the_tests steps all seen i d e tests same is held read lt =
    same ∙ is ∙ ap (λ (l : List (List Criterion)). get_or l i e) (held ∙ read) ∙ get_or-map tests_of steps i d e lt

pub criteria_read : (steps : List Json) (i : ℕ) (step : Json) (criteria : List Json) → All (λ s. All IsCriterion (criteria_of s)) steps → i < length steps → step ≡ get_or steps i step → criteria ≡ criteria_of step → All IsCriterion criteria
criteria_read steps i step criteria all lt is listed =
    subst (All IsCriterion) (sym (listed ∙ ap criteria_of is)) (All-get_or (λ s. All IsCriterion (criteria_of s)) steps i step lt all)

-- those of a sound bundle are read
pub tests_read : (b : Bundle) (steps : List Json) (i : ℕ) (tests : List Criterion) → IsSound b → steps ≡ steps_of b b.workflow → i < length steps → tests ≡ tests_of (get_or steps i Null) → All IsRead tests
tests_read b steps i tests sound listed lt is =
    let step = get_or steps i Null in
    let readable : All IsReadable (criteria_of step) = All-get_or (λ s. All IsReadable (criteria_of s)) steps i Null lt (subst (All (λ s. All IsReadable (criteria_of s))) (sym listed) sound.criteria) in
    subst (All IsRead) (sym is) (All-map IsRead criterion_at (criteria_of step) (λ k d less. readable_is_read _ (readable k d less)))

-- where one of them is of another type than `simple`, patterns may be asked
pub asks_by : (b : Bundle) (steps : List Json) (i : ℕ) (tests : List Criterion) → steps ≡ steps_of b b.workflow → i < length steps → tests ≡ tests_of (get_or steps i Null) → any_matched tests ≡ true → asks_patterns b ≡ true
asks_by b steps i tests listed lt is matched =
    ap (list_any is_judged) (sym listed)
    ∙ list_any_at is_judged steps i Null lt (sym (matched_same (criteria_of (get_or steps i Null))) ∙ ap any_matched (sym is) ∙ matched)

-- where a pattern is too big the count has risen
pub rose_by : (e : CondFault) (steps : List Json) (k : ℕ) (meant : Json → Outcome Bool) (old new : PatternsView) → k < length steps → ((step : Json) → slice_get steps k ≡ Some step → Fails e (meant step) old new)
    → e ≡ fault.Pattern → Rose old.too_big new.too_big
rose_by e steps k meant old new lt says is =
    let step = get_or steps k Null in
    subst (λ f. Fails f (meant step) old new) is (says step (slice_get-get_or steps k Null lt))

pub wide_says : (e : CondFault) (meant : Outcome Bool) (old new : PatternsView) → e ≡ fault.TooWide → Fails e meant old new → Covers meant wide
wide_says e meant old new is says = subst (λ f. Fails f meant old new) is says
