-- Criteria as functions of their texts (Arazzo 1.0.1, section 4.6.11): what each comes to, and why one can't be read. Laws
-- tie them to the grammars.
use Rattle.std.specs.Prelude.{◌≡◌, ◌≢◌, ◌↔◌, ℕ, List, Bool, true, false, ◌&&◌, ◌||◌, codes, if◌then◌else◌, Option, Some, None, option_and_then, Result, Ok, Err}
use Rattle.std.specs.Option.{is_some}
use Rattle.std.specs.Str.{bytes_eq}
use Rattle.arz_json.specs.declared.tree.Json.{Json}
use Rattle.arz_rx.specs.Patterns.{PatternsView, Told}
use Rattle.arz_query.specs.Answers.{answer}
use Rattle.arz_query.specs.Words.{chosen}
use Rattle.arz_query.specs.declared.fault.PathFault.{PathFault}
use Rattle.arz_query.specs.declared.query.Segment.{Segment}
use Rattle.arz_path.specs.Outcome.{Outcome, given}
use Rattle.arz_expr.specs.Reading.{reading as expression_of}
use Rattle.arz_expr.specs.Values.{value_in}
use Rattle.arz_expr.specs.declared.syntax.Base.{Base}
use Rattle.arz_expr.specs.declared.syntax.Expr.{Expr}
use Rattle.arz_cond.specs.Criteria.{Criterion, IsKind, IsRead, Refuses, criterion_at}
use Rattle.arz_cond.specs.Holding.{Means, is_found, is_selected}
use Rattle.arz_cond.specs.Meaning.{is_true, value_of}
use Rattle.arz_cond.specs.Reading.{reading}
use Rattle.arz_cond.specs.declared.fault.TestFault.{TestFault}
use Rattle.arz_cond.specs.declared.fault.TestFault.TheVariants as fault
use Rattle.arz_cond.specs.declared.term.Term.{Term}

-- what is told of each pattern and text
abbrev pub Patterned : Type 0
Patterned = List ℕ → List ℕ → Told

-- ---- the parts of a criterion

-- the condition that a text spells
abbrev pub condition_in : List ℕ → Option Term
condition_in text = reading false text

-- the query that a text spells
abbrev pub given_by : Result (List Segment) PathFault → Option (List Segment)
given_by (Ok vs) = Some vs
given_by (Err e) = None

abbrev pub query_in : List ℕ → Option (List Segment)
query_in text = given_by (answer text)

-- the expression that a context is, and its value
abbrev pub context_in : Option (List ℕ) → Option Expr
context_in context = option_and_then expression_of context

abbrev pub context_value : (Base → Option Json) → Criterion → Option Json
context_value found c = option_and_then (value_in found) (context_in c.context)

abbrev pub is_kind : List ℕ → Criterion → Bool
is_kind kind c = bytes_eq c.kind kind

-- ---- whether a criterion holds

abbrev pub by : Patterned → PatternsView
by told = record { told = told; too_big = 0 }

-- a condition that holds
abbrev pub is_met : (Base → Option Json) → Option Term → Bool
is_met found None = false
is_met found (Some t) = is_true (value_of found t)

-- a query that selects a place
abbrev pub is_chosen : Patterned → Option (List Segment) → Option Json → Outcome Bool
is_chosen told None value = given false
is_chosen told (Some vs) value = is_selected vs (by told) value

-- whether a criterion holds, where `found` gives what each base of an expression names; one that can't be read doesn't
unfoldable pub outcome : Patterned → (Base → Option Json) → Criterion → Outcome Bool
outcome told found c =
    if is_kind (codes "simple") c then given (is_met found (condition_in c.condition))
    else if is_kind (codes "regex") c then is_found told c.condition (context_value found c)
    else is_chosen told (query_in c.condition) (context_value found c)

-- ---- why a criterion can't be read

abbrev pub text_fault : List ℕ → Option TestFault
text_fault text = chosen (reading false text) (λ t. None) (Some (chosen (reading true text) (λ t. fault.Fraction) fault.BadCondition))

abbrev pub query_fault : Result (List Segment) PathFault → Option TestFault
query_fault (Ok vs) = None
query_fault (Err e) = Some (fault.BadPath e)

-- of a criterion of another type than `simple`
abbrev pub contextual_fault : Criterion → Option TestFault
contextual_fault c =
    if is_some (context_in c.context) then (if is_kind (codes "jsonpath") c then query_fault (answer c.condition) else None)
    else Some fault.BadExpression

unfoldable pub fault_in : Criterion → Option TestFault
fault_in c = if is_kind (codes "simple") c then text_fault c.condition else contextual_fault c

-- of a type that is read, with a context where one is wanted
abbrev pub can_be_read : Criterion → Bool
can_be_read c = is_kind (codes "simple") c || ((is_kind (codes "regex") c || is_kind (codes "jsonpath") c) && is_some c.context)

-- of a criterion as a tree; of one that isn't of this kind nothing is said
abbrev pub tree_fault : Json → Option TestFault
tree_fault j = if can_be_read (criterion_at j) then fault_in (criterion_at j) else None

-- ---- the laws

-- a criterion that is read means what the function gives
abbrev pub MeansItsOutcome : Type 0
MeansItsOutcome = (c : Criterion) (found : Base → Option Json) (patterns : PatternsView) → IsRead c → Means c found patterns (outcome patterns.told found c)

-- a criterion of a type that is read is read exactly where the function gives no fault
abbrev pub ReadsUnlessFault : Type 0
ReadsUnlessFault = (c : Criterion) → IsKind c.kind → IsRead c ↔ (fault_in c ≡ None)

-- and a fault but want of memory says of it just what the function gives
abbrev pub RefusesByItsFault : Type 0
RefusesByItsFault = (c : Criterion) (e : TestFault) → IsKind c.kind → e ≢ fault.Memory → Refuses c e → fault_in c ≡ Some e
