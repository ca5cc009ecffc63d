use Rattle.arz_expr.proofs.Embedding.{text-unclosed}
use Rattle.arz_expr.proofs.laws.text_without_brace_stays.Goals as goal

pub returns : goal.returns
returns c = text-unclosed
