use Rattle.arz_components.proofs.Keys.{stripped}
use Rattle.arz_components.proofs.texts.after.Goals as goal

pub returns : goal.returns
returns c = stripped _ _ _ c.strip_prefix.ensures.cases
