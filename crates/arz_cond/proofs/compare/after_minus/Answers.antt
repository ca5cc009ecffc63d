use Rattle.std.specs.Prelude.{codes}
use Rattle.arz_expr.proofs.Keys.{stripped}
use Rattle.arz_cond.proofs.compare.after_minus.Goals as goal

pub returns : goal.returns
returns c = stripped (codes "-") c.args.text.now c.strip_prefix.result c.strip_prefix.ensures.cases
