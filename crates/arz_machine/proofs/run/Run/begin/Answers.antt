use Rattle.arz_machine.proofs.Judging.{sound_of}
use Rattle.arz_machine.proofs.run.Run.begin.Goals as goal

pub invariant_of-result-clause-sound : goal.invariant_of-result-clause-sound
invariant_of-result-clause-sound c = sound_of c.args.bundle.now c.requires

pub invariant_of-result-clause-found : goal.invariant_of-result-clause-found
invariant_of-result-clause-found c = c.in_ok-components.ensures
