use Rattle.arz_relation.proofs.Executions.{one_more, as_many}
use Rattle.arz_relation.proofs.laws.l2.Goals as goal

pub returns : goal.returns
returns g c = let told = (g.P.Patterns.patterns c.args.rx.now).told in record { one_more = one_more told; as_many = as_many told }
