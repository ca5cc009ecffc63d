use Rattle.arz_criteria.proofs.Agreed.{readings_are_told}
use Rattle.arz_criteria.proofs.laws.readings_are_told.Goals as goal

pub returns : goal.returns
returns c = readings_are_told
