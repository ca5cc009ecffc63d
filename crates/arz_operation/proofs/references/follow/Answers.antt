use Rattle.arz_operation.specs.References.{meant}
use Rattle.arz_operation.proofs.references.follow.Goals as goal

pub returns : goal.returns
unfolding meant
returns c = c.follow_within.ensures
