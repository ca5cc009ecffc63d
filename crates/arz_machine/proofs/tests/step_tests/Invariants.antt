use Rattle.std.proofs.Common.{◌≡◌, map, take}
use Rattle.arz_cond.specs.Criteria.{criterion_at}
use Rattle.arz_machine.proofs.tests.step_tests.Given as goal

abbrev pub invariant-loop-criterion : goal.invariant-loop-criterion
invariant-loop-criterion l = l.tests.items ≡ map criterion_at (take l.criterion-index l.criteria)
