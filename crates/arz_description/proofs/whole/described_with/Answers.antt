use Rattle.std.proofs.Common.{codes}
use Rattle.arz_description.proofs.Sound.{listed_under}
use Rattle.arz_description.proofs.whole.described_with.Goals as goal

pub read_workflows-requires-clause-items : goal.read_workflows-requires-clause-items
read_workflows-requires-clause-items c = listed_under (codes "workflows") c.args.root.now c.items_at-items.result.now c.items_at-items.ensures c.requires.root
