use Rattle.arz_graph.proofs.Tests.{cycles_told}
use Rattle.arz_graph.proofs.laws.cycles_are_told.Goals as goal

pub returns : goal.returns
returns c = cycles_told
