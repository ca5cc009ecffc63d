use Rattle.arz_runs.proofs.Planning.{sound_of}
use Rattle.arz_runs.proofs.ground.Ground.of.Goals as goal

pub invariant_of-result : goal.invariant_of-result
invariant_of-result c = record { sound = sound_of c.args.bundle.now c.requires; planned = c.in_ok-plans.ensures }
