use Rattle.std.proofs.Common.{codes}
use Rattle.std.specs.Str.{bytes_eq}
use Rattle.arz_json.specs.Look.{text_at}
use Rattle.arz_bundle.proofs.ComponentForms.{find-formed}
use Rattle.arz_bundle.proofs.naming.formed_workflow.Goals as goal

pub returns-clause-formed : goal.returns-clause-formed
returns-clause-formed c =
    find-formed (λ w. bytes_eq (text_at (codes "workflowId") w) c.args.id.now) (codes "workflows") c.args.description.now c.workflow_named.result c.workflow_named.ensures c.requires
