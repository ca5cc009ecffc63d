use Rattle.arz_rules.proofs.Solids.{solid}
use Rattle.arz_rules.proofs.laws.solid_trees.Goals as goal

pub returns : goal.returns
returns c = solid
