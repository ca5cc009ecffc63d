use Rattle.arz_cond.proofs.Contract.{one-reading}
use Rattle.arz_cond.proofs.laws.one_reading.Goals as goal

pub returns : goal.returns
returns c = one-reading
