use Rattle.arz_top.proofs.TellingAll.{telling_all}
use Rattle.arz_top.proofs.laws.patterns_that_tell_all.Goals as goal

pub returns : goal.returns
returns c = telling_all
