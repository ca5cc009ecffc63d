use Rattle.std.proofs.Common.{◌+◌, ◌*◌, ◌-◌, length}
use Rattle.arz_runs.specs.Fronts.{weight}
use Rattle.arz_runs.proofs.front.Front.+go.Given as goal

abbrev pub decreases-go : goal.decreases-go
decreases-go l = 3 * (33 - (length l.self.now.frames.now + length l.made)) + weight l.goal
