use Rattle.arz_operation.proofs.references.+follow_within.Given as goal

abbrev pub decreases-follow_within : goal.decreases-follow_within
decreases-follow_within l = l.left
