-- Whether an attempt succeeded (Arazzo 1.0.1, 4.6.5.1: successCriteria; 4.6.11).
use Rattle.std.specs.Prelude.{◌&&◌, not, nat_le, if◌then◌else◌, Bool, true, false, List, [], ◌∷◌, codes, Option}
use Rattle.std.specs.List.{list_any}
use Rattle.arz_json.specs.declared.Json.{Json}
use Rattle.arz_world.specs.declared.Reply.{Reply}
use Rattle.arz_expr.specs.declared.syntax.Base.{Base}
use Rattle.arz_path.specs.Outcome.{Outcome, given, and_then}
pub use Rattle.arz_cond.specs.Outcomes.{Patterned}
use Rattle.arz_cond.specs.Outcomes.{outcome, is_kind}
use Rattle.arz_cond.specs.Criteria.{criterion_at}
use Rattle.arz_flow.specs.declared.bundle.Bundle.{Bundle}
use Rattle.arz_flow.specs.Documents.{steps_of, criteria_of}

-- an attempt without criteria succeeds at the statuses 200 to 299
abbrev pub is_success : Reply → Bool
is_success reply = nat_le 200 reply.status && nat_le reply.status 299

-- whether all of some criteria hold: they are tried in order, up to the first that doesn't
abbrev pub all_hold : Patterned → (Base → Option Json) → List Json → Outcome Bool
all_hold told found [] = given true
all_hold told found (c ∷ cs) = and_then (λ holds. if holds then all_hold told found cs else given false) (outcome told found (criterion_at c))

-- whether an attempt succeeded, where `found` gives what the expressions of its criteria speak of
abbrev pub verdict : Patterned → (Base → Option Json) → Reply → List Json → Outcome Bool
verdict told found reply [] = given (is_success reply)
verdict told found reply (c ∷ cs) = all_hold told found (c ∷ cs)

-- ---- whether any step of the workflow that is run has a criterion of another type than `simple`

abbrev pub is_patterned : Json → Bool
is_patterned c = not (is_kind (codes "simple") (criterion_at c))

abbrev pub is_judged : Json → Bool
is_judged step = list_any is_patterned (criteria_of step)

abbrev pub asks_patterns : Bundle → Bool
asks_patterns b = list_any is_judged (steps_of b b.workflow)
