use Rattle.arz_relation.proofs.Executions.{one_end}
use Rattle.arz_relation.proofs.Steady.{has_end}
use Rattle.arz_relation.proofs.laws.l1.Goals as goal

pub returns : goal.returns
returns g c = let told = (g.P.Patterns.patterns c.args.rx.now).told in record { one_end = one_end told; has_end = has_end told }
