use Rattle.arz_expr.proofs.Keys.{stripped}
use Rattle.arz_expr.proofs.names.after.Goals as goal

pub returns : goal.returns
returns c = stripped _ _ _ c.strip_prefix.ensures.cases
