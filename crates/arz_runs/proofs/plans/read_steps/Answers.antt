use Rattle.std.proofs.Common.{◌∙◌}
use Rattle.arz_components.specs.Indexes.{finds}
use Rattle.arz_sources.specs.Served.{found_in}
use Rattle.arz_runs.specs.Reading.{IsReadableStep}
use Rattle.arz_runs.proofs.Reading.{taken, step_taken, step_read}
use Rattle.arz_runs.proofs.plans.read_steps.Goals as goal

pub read_step-requires-clause-readable : goal.read_step-requires-clause-readable
read_step-requires-clause-readable c =
    taken (IsReadableStep (finds c.args.reader.now.components.now)) c.args.steps.now c.loop-step.step-index c.step-item.result c.requires.readable c.loop-step-test.true c.step-item.is

pub loop-step-preserved : goal.loop-step-preserved
loop-step-preserved c =
    let component = finds c.args.reader.now.components.now in
    let targets = found_in c.args.reader.now.sources.now in
    let p = c.in_ok-read_step.field-0 in
    let before = c.loop-step.invariant in (
      step_taken component targets c.loop-step.list.items c.push.new.self.items p c.args.steps.now c.loop-step.step-index c.step-item.result c.in_ok-push.ensures.items c.in_ok-read_step.ensures.step c.loop-step-test.true c.step-item.is before.0,
      (
        step_read component targets c.args.flow.now.workflow.now c.loop-step.list.items c.push.new.self.items p c.in_ok-push.ensures.items c.in_ok-read_step.ensures.read before.1.0,
        c.read_step.ensures.same ∙ before.1.1,
      ),
    )
