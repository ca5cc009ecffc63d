use Rattle.std.proofs.Common.{codes}
use Rattle.arz_description.proofs.Sound.{listed_under}
use Rattle.arz_runs.proofs.given.given.Goals as goal

pub read_givens-requires-clause-items : goal.read_givens-requires-clause-items
read_givens-requires-clause-items c = listed_under (codes "parameters") c.args.step.now c.items_at.result.now c.items_at.ensures c.requires.step
