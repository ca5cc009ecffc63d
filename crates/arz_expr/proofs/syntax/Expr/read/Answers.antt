use Rattle.arz_expr.proofs.Steps.{reads-if, complete-if}
use Rattle.arz_expr.proofs.syntax.Expr.read.Goals as goal

pub returns-clause-reads : goal.returns-clause-reads
returns-clause-reads c = reads-if c.args.text.now c.read_whole.result c.read_whole.ensures

pub returns-clause-complete : goal.returns-clause-complete
returns-clause-complete c = complete-if c.args.text.now c.read_whole.result c.read_whole.ensures
