use Rattle.std.proofs.Common.{codes}
use Rattle.arz_description.proofs.Sound.{listed_under}
use Rattle.arz_description.proofs.steps.read_step.Goals as goal

pub read_givens-requires-clause-items : goal.read_givens-requires-clause-items
read_givens-requires-clause-items c = listed_under (codes "parameters") c.args.tree.now c.items_at-givens.result.now c.items_at-givens.ensures c.requires.tree
