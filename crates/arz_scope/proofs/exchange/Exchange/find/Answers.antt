use Rattle.std.proofs.Common.{◌∙◌}
use Rattle.arz_scope.proofs.Depths.{each-shallow, body-shallow}
use Rattle.arz_scope.proofs.exchange.Exchange.find.Goals as goal

pub returns-in-ResponseBody-clause-shallow : goal.returns-in-ResponseBody-clause-shallow
returns-in-ResponseBody-clause-shallow c =
    each-shallow c.as_ref-in-ResponseBody.result _ (c.as_ref-in-ResponseBody.ensures.value ∙ c.self.invariant.body_is) (body-shallow c.self.inside.reply.now)
