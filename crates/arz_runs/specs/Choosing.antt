-- ---- for private clauses: actions that are read, tried in order
use Rattle.std.specs.Prelude.{Bool, false, List, Option, if◌then◌else◌}
use Rattle.std.specs.List.{list_any}
use Rattle.arz_json.specs.declared.Json.{Json}
use Rattle.arz_expr.specs.declared.syntax.Base.{Base}
use Rattle.arz_path.specs.Outcome.{Outcome, given}
use Rattle.arz_cond.specs.Outcomes.{Patterned}
use Rattle.arz_actions.specs.Tests.{all_met, any_matched}
use Rattle.arz_actions.specs.declared.ready.Ready.{Ready}
use Rattle.arz_relation.specs.Retries.{made_of, is_used_up_by}
use Rattle.arz_relation.specs.declared.retries.Count.{Count}

-- whether an action isn't a retry that is used up, and its criteria all hold
abbrev pub taken : Patterned → (Base → Option Json) → List Count → Ready → Outcome Bool
taken told found counts a = if is_used_up_by a.act (made_of a.name counts) then given false else all_met told found a.criteria

-- whether any criterion of theirs is of another type than `simple`
abbrev pub any_tried : List Ready → Bool
any_tried actions = list_any (λ a. any_matched a.criteria) actions
