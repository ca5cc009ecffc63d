use Rattle.arz_session.proofs.EndsOver.{ends_over}
use Rattle.arz_session.proofs.laws.an_end.Goals as goal

pub returns : goal.returns
returns g c = ends_over (g.P.Patterns.patterns c.args.rx.now).told
