use Rattle.arz_bundle.proofs.ComponentForms.{child-formed}
use Rattle.arz_bundle.proofs.components.formed_child.Goals as goal

pub returns-clause-formed : goal.returns-clause-formed
returns-clause-formed c = child-formed c.args.name.now c.args.tree.now c.child.result c.child.ensures c.requires
