use Rattle.arz_step_calls.proofs.Members.{member-within}
use Rattle.arz_step_calls.proofs.bases.member.Goals as goal

pub returns-clause-within : goal.returns-clause-within
returns-clause-within c = member-within c.get.result c.args.name.now _ c.get.ensures c.requires
