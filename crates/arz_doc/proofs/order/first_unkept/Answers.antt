use Rattle.arz_contents.specs.Contents.{fractions}
use Rattle.arz_criteria.specs.Rules.{fraction_conditions}
use Rattle.arz_sites.proofs.Parts.{joined}
use Rattle.arz_doc.proofs.order.first_unkept.Goals as goal

pub returns : goal.returns
returns c = joined (fractions c.args.root.now) (fraction_conditions c.args.root.now) _ _ _ c.lesser.ensures c.in_ok-value.ensures c.in_ok-condition.ensures
