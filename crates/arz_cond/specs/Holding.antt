-- Whether a criterion holds (Arazzo 1.0.1, section 4.6.11), where `found` gives what each base of an expression names.
use Rattle.std.specs.Prelude.{◌≡◌, ℕ, List, Bool, false, Option, Some, None, option_and_then, Result, Ok, Err}
use Rattle.arz_json.specs.declared.tree.Json.{Json}
use Rattle.arz_rx.specs.Patterns.{PatternsView, Rose, Told}
use Rattle.arz_rx.specs.declared.patterns.SearchFault.{SearchFault}
use Rattle.arz_rx.specs.declared.patterns.SearchFault.TheVariants as search
use Rattle.arz_query.specs.Answers.{Spells as SpellsQuery}
use Rattle.arz_query.specs.declared.query.Segment.{Segment}
use Rattle.arz_path.specs.Outcome.{Outcome, given, wide, Covers}
use Rattle.arz_path.specs.Selected.{answered, is_any}
use Rattle.arz_path.specs.Results.{setting_of}
use Rattle.arz_path.specs.declared.fault.SelectFault.{SelectFault}
use Rattle.arz_path.specs.declared.fault.SelectFault.TheVariants as select
use Rattle.arz_expr.specs.Values.{value_in}
use Rattle.arz_expr.specs.declared.syntax.Base.{Base}
use Rattle.arz_cond.specs.Criteria.{Criterion, kind_of, Spells}
use Rattle.arz_cond.specs.Meaning.{is_true, value_of}
use Rattle.arz_cond.specs.Rendering.{searched_text}
use Rattle.arz_cond.specs.declared.cause.CondFault.{CondFault}
use Rattle.arz_cond.specs.declared.cause.CondFault.TheVariants as fault
use Rattle.arz_cond.specs.declared.test.Parsed.{Parsed}
use Rattle.arz_cond.specs.declared.test.Parsed.TheVariants.{Simple, Regex, Path}

-- whether a pattern is found in a text; false where the pattern has no reading, or there is no text
abbrev pub found_in : (List ℕ → List ℕ → Told) → List ℕ → Option (List ℕ) → Outcome Bool
found_in told pattern None = given false
found_in told pattern (Some text) = answered (told pattern text)

-- whether it is found in a value
abbrev pub is_found : (List ℕ → List ℕ → Told) → List ℕ → Option Json → Outcome Bool
is_found told pattern value = found_in told pattern (option_and_then searched_text value)

-- whether a query selects a place in a value; false where there is none
abbrev pub is_selected : List Segment → PatternsView → Option Json → Outcome Bool
is_selected vs patterns None = given false
is_selected vs patterns (Some root) = is_any vs (setting_of patterns root)

-- A condition holds where its value is true, whatever the context. A pattern is to be found in the context's value, and a
-- query to select a place in it.
abbrev pub MeansOf : Parsed → List ℕ → (Base → Option Json) → PatternsView → Outcome Bool → Type 0
MeansOf (Simple t) condition found patterns meant = meant ≡ given (is_true (value_of found t))
MeansOf (Regex e) condition found patterns meant = meant ≡ is_found patterns.told condition (value_in found e)
MeansOf (Path text e) condition found patterns meant =
    (vs : List Segment) × SpellsQuery text vs × (meant ≡ is_selected vs patterns (value_in found e))

-- whether a criterion holds: by what its texts spell
pub record Means (c : Criterion) (found : Base → Option Json) (patterns : PatternsView) (meant : Outcome Bool) : Type 0 where
  pub parsed : Parsed
  pub kind : c.kind ≡ kind_of parsed
  pub spells : Spells c parsed
  pub meaning : MeansOf parsed c.condition found patterns meant

-- ---- what is answered

-- why nothing is: a selection is too wide, where that is told; or a pattern was too big; or memory ran out
abbrev pub Fails : CondFault → Outcome Bool → PatternsView → PatternsView → Type 0
Fails fault.TooWide meant old new = Covers meant wide
Fails fault.Pattern meant old new = Rose old.too_big new.too_big
Fails fault.Memory meant old new = Unit {0}

-- what is meant, where that is told; unless it fails
abbrev pub Answers : Result Bool CondFault → Outcome Bool → PatternsView → PatternsView → Type 0
Answers (Ok b) meant old new = Covers meant (given b)
Answers (Err e) meant old new = Fails e meant old new

-- the answer is whether the criterion holds
abbrev pub Says : Criterion → (Base → Option Json) → Result Bool CondFault → PatternsView → PatternsView → Type 0
Says c found result old new = (meant : Outcome Bool) → Means c found old meant → Answers result meant old new

-- what a fault of a search or of a selection is here
abbrev pub search_fault : SearchFault → CondFault
search_fault search.TooBig = fault.Pattern
search_fault search.Memory = fault.Memory

abbrev pub select_fault : SelectFault → CondFault
select_fault select.TooWide = fault.TooWide
select_fault select.Pattern = fault.Pattern
select_fault select.Memory = fault.Memory

-- ---- for private clauses: the answer is what a parsed form means

abbrev pub SaysOf : Parsed → List ℕ → (Base → Option Json) → Result Bool CondFault → PatternsView → PatternsView → Type 0
SaysOf (Simple t) condition found result old new = Answers result (given (is_true (value_of found t))) old new
SaysOf (Regex e) condition found result old new = Answers result (is_found old.told condition (value_in found e)) old new
SaysOf (Path text e) condition found result old new =
    (vs : List Segment) → SpellsQuery text vs → Answers result (is_selected vs old (value_in found e)) old new
