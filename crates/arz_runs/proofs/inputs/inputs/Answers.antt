use Rattle.std.proofs.Common.{sym, subst}
use Rattle.arz_scope.specs.Shallow.{AreShallow}
use Rattle.arz_runs.proofs.Filling.{shallow_members}
use Rattle.arz_runs.proofs.inputs.inputs.Goals as goal

pub returns-clause-shallow : goal.returns-clause-shallow
returns-clause-shallow g c = subst AreShallow (sym c.in_ok-members.ensures) (shallow_members c.in_ok-values.values.entries c.in_ok-values.ensures.shallow)
