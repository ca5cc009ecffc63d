use Rattle.std.proofs.Common.{codes}
use Rattle.arz_sources.specs.Rules.{rules}
use Rattle.arz_bundle.specs.Phases.{steps_against}
use Rattle.arz_bundle.proofs.Stages.{phase-told}
use Rattle.arz_bundle.proofs.phases.check_calls.Goals as goal

pub returns : goal.returns
unfolding steps_against
returns c = phase-told (codes "arazzo") (rules c.args.description.now c.args.sources.now c.args.servers.now) c.check_steps.result c.check_steps.ensures
