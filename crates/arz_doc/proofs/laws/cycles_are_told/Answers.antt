use Rattle.arz_doc.proofs.Numbered.{some_test}
use Rattle.arz_doc.proofs.laws.cycles_are_told.Goals as goal

pub returns : goal.returns
returns c = some_test
