use Rattle.arz_wire.proofs.Stays as stays
use Rattle.arz_wire.proofs.laws.short_can_go_on.Goals as goal

pub returns : goal.returns
returns c = stays.short_can_go_on
