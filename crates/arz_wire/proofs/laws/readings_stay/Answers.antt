use Rattle.arz_wire.proofs.Stays as stays
use Rattle.arz_wire.proofs.laws.readings_stay.Goals as goal

pub returns : goal.returns
returns c = stays.readings_stay
