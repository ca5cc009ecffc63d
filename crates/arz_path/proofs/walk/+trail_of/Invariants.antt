use Rattle.std.proofs.Common.{length}
use Rattle.arz_path.proofs.walk.+trail_of.Given as goal

abbrev pub decreases-trail_of : goal.decreases-trail_of
decreases-trail_of l = length l.path.now.items
