use Rattle.arz_top.proofs.OneEnding.{one_ending}
use Rattle.arz_top.proofs.laws.one_ending.Goals as goal

pub returns : goal.returns
returns c = one_ending
