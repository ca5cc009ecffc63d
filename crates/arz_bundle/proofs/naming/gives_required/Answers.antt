use Rattle.arz_bundle.specs.Naming.{lacking}
use Rattle.arz_bundle.proofs.ComponentForms.{none-found}
use Rattle.arz_bundle.proofs.naming.gives_required.Goals as goal

pub returns : goal.returns
returns c = none-found c.in_ok-found.found (lacking c.args.setup.now c.args.schema.now) c.is_none.result c.is_none.ensures c.in_ok-found.ensures
