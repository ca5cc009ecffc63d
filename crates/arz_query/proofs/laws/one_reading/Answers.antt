use Rattle.arz_query.proofs.Contract.{one-reading}
use Rattle.arz_query.proofs.laws.one_reading.Goals as goal

pub returns : goal.returns
returns c = one-reading
