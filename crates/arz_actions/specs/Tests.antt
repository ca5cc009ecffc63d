-- What criteria (Arazzo 1.0.1, section 4.6.11) come to, tried in order.
use Rattle.std.specs.Prelude.{List, [], ◌∷◌, not, Bool, true, false, if◌then◌else◌, codes, Option}
use Rattle.std.specs.List.{list_any}
use Rattle.arz_json.specs.declared.tree.Json.{Json}
use Rattle.arz_expr.specs.declared.syntax.Base.{Base}
use Rattle.arz_path.specs.Outcome.{Outcome, given, and_then}
use Rattle.arz_cond.specs.Criteria.{Criterion}
use Rattle.arz_cond.specs.Outcomes.{Patterned, is_kind, outcome}

-- whether all of them hold
abbrev pub all_met : Patterned → (Base → Option Json) → List Criterion → Outcome Bool
all_met told found [] = given true
all_met told found (c ∷ cs) = and_then (λ holds. if holds then all_met told found cs else given false) (outcome told found c)

-- whether any of them is of another type than `simple`
abbrev pub is_matched : Criterion → Bool
is_matched c = not (is_kind (codes "simple") c)

abbrev pub any_matched : List Criterion → Bool
any_matched cs = list_any is_matched cs
