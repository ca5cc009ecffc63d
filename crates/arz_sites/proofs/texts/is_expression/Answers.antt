use Rattle.std.proofs.Common.{ap, ◌∙◌}
use Rattle.std.specs.Option.{is_some}
use Rattle.arz_sites.proofs.Expressions.{is_reading}
use Rattle.arz_sites.proofs.texts.is_expression.Goals as goal

pub returns : goal.returns
returns c = c.is_some.ensures ∙ ap is_some (is_reading c.args.text.now c.in_ok-expr.expr c.in_ok-expr.ensures.reads c.in_ok-expr.ensures.complete)
