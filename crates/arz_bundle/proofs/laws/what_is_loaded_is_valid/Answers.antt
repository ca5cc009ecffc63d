use Rattle.arz_bundle.proofs.LoadingLaws.{loads_valid, gives_statuses}
use Rattle.arz_bundle.proofs.laws.what_is_loaded_is_valid.Goals as goal

pub returns : goal.returns
returns c = record { bundle = loads_valid; replies = gives_statuses }
