use Rattle.std.proofs.Common.{length}
use Rattle.arz_rules.proofs.look.+find.Given as goal

abbrev pub decreases-find : goal.decreases-find
decreases-find l = length l.members.now
