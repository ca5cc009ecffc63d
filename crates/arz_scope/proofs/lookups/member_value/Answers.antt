use Rattle.arz_scope.proofs.Depths.{value-found}
use Rattle.arz_scope.proofs.lookups.member_value.Goals as goal

pub returns-clause-shallow : goal.returns-clause-shallow
returns-clause-shallow c = λ s. value-found c.value_named.result c.args.members.now c.args.name.now c.value_named.ensures s
