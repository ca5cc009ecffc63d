use Rattle.arz_wire.proofs.Once as once
use Rattle.arz_wire.proofs.laws.one_spelling.Goals as goal

pub returns : goal.returns
returns c = once.one_spelling
