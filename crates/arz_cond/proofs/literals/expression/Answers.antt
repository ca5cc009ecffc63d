use Rattle.arz_cond.proofs.Contract.{expression-is}
use Rattle.arz_cond.proofs.literals.expression.Goals as goal

pub returns : goal.returns
returns c = expression-is c.args.text.now c.read.result c.read.ensures.reads c.read.ensures.complete
