use Rattle.arz_relation.proofs.Simple.{needs_no_pattern}
use Rattle.arz_relation.proofs.Steady.{told_before}
use Rattle.arz_relation.proofs.laws.told.Goals as goal

pub returns : goal.returns
returns g c = let told = (g.P.Patterns.patterns c.args.rx.now).told in record { before = told_before told; none = needs_no_pattern told }
