use Rattle.arz_top.proofs.TellingAll.{asking_nothing}
use Rattle.arz_top.proofs.laws.patterns_that_are_not_asked.Goals as goal

pub returns : goal.returns
returns c = asking_nothing
