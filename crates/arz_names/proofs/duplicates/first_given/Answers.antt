use Rattle.std.proofs.Common.{◌++◌, codes}
use Rattle.arz_rules.specs.Sites.{at}
use Rattle.arz_sites.specs.Sites.{only, workflows, steps}
use Rattle.arz_components.specs.Indexes.{finds}
use Rattle.arz_names.specs.Names.{repeated_parameters, repeated_in_step}
use Rattle.arz_sites.proofs.Parts.{joined}
use Rattle.arz_names.proofs.duplicates.first_given.Goals as goal

pub returns : goal.returns
returns c =
    let find = finds c.args.components.now in
    let root = c.args.root.now in
    joined (at (workflows ++ only (codes "parameters")) (repeated_parameters find) root) (at steps (repeated_in_step find) root) _ _ _ c.lesser.ensures c.in_ok-of_workflows.ensures c.in_ok-of_steps.ensures
