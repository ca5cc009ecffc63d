use Rattle.arz_expr.proofs.Embedding.{text-expression}
use Rattle.arz_expr.proofs.laws.expression_stands_for_its_value.Goals as goal

pub returns : goal.returns
returns c = text-expression
