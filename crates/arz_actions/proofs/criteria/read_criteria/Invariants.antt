use Rattle.std.proofs.Common.{◌≡◌, map, take}
use Rattle.arz_cond.specs.Criteria.{criterion_at}
use Rattle.arz_actions.proofs.criteria.read_criteria.Given as goal

abbrev pub invariant-loop-item : goal.invariant-loop-item
invariant-loop-item l = l.tests.items ≡ map criterion_at (take l.item-index l.items)
