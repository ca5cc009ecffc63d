-- ---- for private clauses: the criteria of a step, as they are read
use Rattle.std.specs.Prelude.{◌≡◌, ◌≤◌, List, [], ◌∷◌, All, length, map, not, ◌&&◌, Bool, true, false, if◌then◌else◌, codes, Option}
use Rattle.std.specs.List.{list_any}
use Rattle.std.specs.Option.{is_none}
use Rattle.arz_json.specs.Tree.{IsWithin}
use Rattle.arz_json.specs.declared.Json.{Json}
use Rattle.arz_json.specs.declared.Json.TheVariants.{Object}
use Rattle.arz_world.specs.declared.Reply.{Reply}
use Rattle.arz_expr.specs.declared.syntax.Base.{Base}
use Rattle.arz_path.specs.Outcome.{Outcome, given, and_then}
use Rattle.arz_cond.specs.Criteria.{Criterion, criterion_at}
use Rattle.arz_cond.specs.Outcomes.{Patterned, is_kind, outcome, can_be_read, fault_in}
use Rattle.arz_flow.specs.declared.bundle.Bundle.{Bundle}
use Rattle.arz_flow.specs.Valid.{steps_limit}
use Rattle.arz_flow.specs.Verdicts.{is_success}
use Rattle.arz_flow.specs.Documents.{steps_of, criteria_of}

abbrev pub tests_of : Json → List Criterion
tests_of step = map criterion_at (criteria_of step)

-- whether they hold, and whether an attempt succeeded by them
abbrev pub all_met : Patterned → (Base → Option Json) → List Criterion → Outcome Bool
all_met told found [] = given true
all_met told found (c ∷ cs) = and_then (λ holds. if holds then all_met told found cs else given false) (outcome told found c)

abbrev pub judged : Patterned → (Base → Option Json) → Reply → List Criterion → Outcome Bool
judged told found reply [] = given (is_success reply)
judged told found reply (c ∷ cs) = all_met told found (c ∷ cs)

-- whether any of them is of another type than `simple`
abbrev pub is_matched : Criterion → Bool
is_matched c = not (is_kind (codes "simple") c)

abbrev pub any_matched : List Criterion → Bool
any_matched cs = list_any is_matched cs

-- ---- what a run keeps of the validity of its bundle

-- a criterion that can be read, as a test
abbrev pub is_readable : Criterion → Bool
is_readable c = can_be_read c && is_none (fault_in c)

abbrev pub IsReadable : Json → Type 0
IsReadable c = is_readable (criterion_at c) ≡ true

pub record IsSound (b : Bundle) : Type 0 where
  pub few : length (steps_of b b.workflow) ≤ steps_limit
  pub criteria : All (λ step. All IsReadable (criteria_of step)) (steps_of b b.workflow)
  pub arazzo : IsWithin 127 b.arazzo
  pub inputs : IsWithin 127 (Object b.inputs)
