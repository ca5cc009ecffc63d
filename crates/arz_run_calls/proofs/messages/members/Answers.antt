use Rattle.std.proofs.Common.{subst}
use Rattle.arz_scope.specs.Shallow.{IsShallow}
use Rattle.arz_scope.proofs.Depths.{AreShallow-object}
use Rattle.arz_run_calls.proofs.messages.members.Goals as goal

pub returns-in-Object : goal.returns-in-Object
returns-in-Object c = AreShallow-object c.in-Object.members (subst IsShallow c.in-Object.is c.in_ok-members.ensures.nests)
