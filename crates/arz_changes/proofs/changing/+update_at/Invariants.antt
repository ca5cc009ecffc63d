use Rattle.std.proofs.Common.{length}
use Rattle.arz_changes.proofs.changing.+update_at.Given as goal

abbrev pub decreases-update_at : goal.decreases-update_at
decreases-update_at l = length l.place.now
