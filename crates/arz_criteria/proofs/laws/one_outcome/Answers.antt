use Rattle.arz_criteria.proofs.Agreed.{one_outcome}
use Rattle.arz_criteria.proofs.laws.one_outcome.Goals as goal

pub returns : goal.returns
returns c = one_outcome
