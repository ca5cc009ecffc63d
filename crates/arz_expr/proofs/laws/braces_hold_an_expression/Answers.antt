use Rattle.arz_expr.proofs.Embedding.{text-embedded}
use Rattle.arz_expr.proofs.laws.braces_hold_an_expression.Goals as goal

pub returns : goal.returns
returns c = text-embedded
