use Rattle.arz_relation.proofs.Executions.{prefix_fits}
use Rattle.arz_relation.proofs.laws.l3.Goals as goal

pub returns : goal.returns
returns g c = prefix_fits (g.P.Patterns.patterns c.args.rx.now).told
