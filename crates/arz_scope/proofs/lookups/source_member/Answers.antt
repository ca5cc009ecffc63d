use Rattle.arz_scope.proofs.Depths.{member-found}
use Rattle.arz_scope.proofs.lookups.source_member.Goals as goal

pub returns-clause-shallow : goal.returns-clause-shallow
returns-clause-shallow c = λ w. member-found c.get.result c.args.name.now _ c.get.ensures (c.in_ok-source_named.ensures.shallow w)
