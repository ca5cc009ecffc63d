use Rattle.arz_top.proofs.EndingOrRun.{ending_or_run}
use Rattle.arz_top.proofs.laws.an_ending_or_a_run.Goals as goal

pub returns : goal.returns
returns c = ending_or_run
