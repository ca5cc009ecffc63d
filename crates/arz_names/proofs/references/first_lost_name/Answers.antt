use Rattle.arz_rules.specs.Sets.{has}
use Rattle.arz_names.specs.Names.{lost_workflows_by, lost_sources_by}
use Rattle.arz_sites.proofs.Parts.{joined}
use Rattle.arz_names.proofs.references.first_lost_name.Goals as goal

pub returns : goal.returns
returns c =
    joined (lost_workflows_by (has c.args.workflows.now) c.args.root.now) (lost_sources_by (has c.args.sources.now) c.args.root.now) _ _ _ c.lesser.ensures c.in_ok-of_workflows.ensures c.in_ok-of_sources.ensures
