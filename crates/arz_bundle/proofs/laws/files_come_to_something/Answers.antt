use Rattle.arz_bundle.proofs.LoadingLaws.{loads_some, gives_some}
use Rattle.arz_bundle.proofs.laws.files_come_to_something.Goals as goal

pub returns : goal.returns
returns c = record { bundle = loads_some; replies = gives_some }
