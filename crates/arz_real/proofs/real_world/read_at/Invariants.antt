use Rattle.std.proofs.Common.{◌-◌, ◌≤◌, length}
use Rattle.arz_real.proofs.real_world.read_at.Given as goal

abbrev pub invariant-bytes : goal.invariant-bytes
invariant-bytes g l = l.count ≤ length l.into

abbrev pub decreases-bytes : goal.decreases-bytes
decreases-bytes g l = length l.into - l.count
