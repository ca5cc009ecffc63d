use Rattle.arz_expr.proofs.Steps.{once}
use Rattle.arz_expr.proofs.laws.one_reading.Goals as goal

pub returns : goal.returns
returns c = once
