use Rattle.std.proofs.Common.{sym, ◌∙◌}
use Rattle.arz_expr.proofs.Cutting.{opens-none, opens-none-last, last-parts}
use Rattle.arz_expr.proofs.pieces.last_braced.Goals as goal

pub returns-in_default : goal.returns-in_default
returns-in_default c = opens-none c.args.text.now (rw c.in_default.is at (last-parts c.args.text.now c.rsplit_once.result c.rsplit_once.ensures.cases))

pub returns-in-None : goal.returns-in-None
returns-in-None c =
    let cut = rw c.in-Some.is at (last-parts c.args.text.now c.rsplit_once.result c.rsplit_once.ensures.cases) in
    opens-none-last c.args.text.now c.in-Some.plain.now c.in-Some.inside.now cut.0 cut.1 (sym c.in_ok-expr.ensures ∙ c.in-None.is)
