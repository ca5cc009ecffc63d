use Rattle.std.proofs.Common.{length}
use Rattle.arz_changes.proofs.looking.+standing.Given as goal

abbrev pub decreases-standing : goal.decreases-standing
decreases-standing l = length l.place.now
