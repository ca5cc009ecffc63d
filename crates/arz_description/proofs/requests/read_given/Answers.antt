use Rattle.arz_components.specs.Indexes.{finds}
use Rattle.arz_components.specs.declared.components.Part.TheVariants.{Parameters}
use Rattle.arz_description.proofs.Sound.{meant_under}
use Rattle.arz_description.proofs.requests.read_given.Goals as goal

pub read_given_by-requires-clause-component : goal.read_given_by-requires-clause-component
read_given_by-requires-clause-component c = meant_under (finds c.args.components.now) Parameters c.args.item.now c.meant.result.now c.meant.ensures c.requires.components c.requires.item
