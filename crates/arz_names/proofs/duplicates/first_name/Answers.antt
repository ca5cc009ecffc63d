use Rattle.std.proofs.Common.{◌++◌, codes}
use Rattle.arz_rules.specs.Sites.{at}
use Rattle.arz_sites.specs.Sites.{only, workflows}
use Rattle.arz_components.specs.Indexes.{finds}
use Rattle.arz_names.specs.Names.{repeats}
use Rattle.arz_names.specs.declared.repeats.Key.TheVariants.{Name, WorkflowId, StepId}
use Rattle.arz_sites.proofs.Parts.{joined}
use Rattle.arz_names.proofs.duplicates.first_name.Goals as goal

pub returns : goal.returns
returns c =
    let find = finds c.args.components.now in
    let root = c.args.root.now in
    let sources = at (only (codes "sourceDescriptions")) (repeats find Name) root in
    let flows = at (only (codes "workflows")) (repeats find WorkflowId) root in
    let steps = at (workflows ++ only (codes "steps")) (repeats find StepId) root in
    joined (sources ++ flows) steps _ _ _ c.lesser.ensures
    (joined sources flows _ _ _ c.lesser-outer.ensures c.in_ok-sources.ensures c.in_ok-workflows.ensures)
    c.in_ok-steps.ensures
