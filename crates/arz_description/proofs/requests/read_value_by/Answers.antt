use Rattle.std.proofs.Common.{codes}
use Rattle.arz_description.proofs.Sound.{under}
use Rattle.arz_description.proofs.requests.read_value_by.Goals as goal

pub read-requires : goal.read-requires
read-requires c = under (codes "value") c.args.item.now c.in-Some.value.now c.in-Some.ensures c.requires.item
