use Rattle.arz_rules.specs.Misses.{misses}
use Rattle.arz_rules.specs.declared.kinds.Kind.TheVariants.{Description}
use Rattle.arz_components.specs.Indexes.{finds}
use Rattle.arz_names.specs.Names.{placeless_uses}
use Rattle.arz_sites.proofs.Parts.{joined}
use Rattle.arz_doc.proofs.order.first_wrong_shape.Goals as goal

pub returns : goal.returns
returns c = joined (misses c.args.root.now Description) (placeless_uses (finds c.args.components.now) c.args.root.now) _ _ _ c.lesser.ensures c.in_ok-own.ensures c.in_ok-uses.ensures
