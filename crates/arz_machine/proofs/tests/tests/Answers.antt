use Rattle.arz_machine.proofs.Judging.{criteria_read}
use Rattle.arz_machine.proofs.tests.tests.Goals as goal

pub step_tests-requires : goal.step_tests-requires
step_tests-requires c =
    criteria_read c.args.steps.now c.loop-step.step-index c.step-item.result c.items_at.result.now c.requires c.loop-step-test.true c.step-item.is c.items_at.ensures
