use Rattle.arz_machine.proofs.MachineAt.{starts_run}
use Rattle.arz_machine.proofs.machine.Machine.start.Goals as goal

pub returns : goal.returns
returns c = λ told.
    let run = c.in_ok-run.run' in
    starts_run told c.args.bundle.now run.bundle.now run.facts run.steps.now _ c.requires c.in_ok-run.ensures.bundle c.in_ok-run.ensures.facts run.listed c.in_ok-state.ensures.entered
