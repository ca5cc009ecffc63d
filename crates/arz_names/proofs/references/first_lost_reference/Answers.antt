use Rattle.std.proofs.Common.{◌++◌}
use Rattle.arz_rules.specs.Sites.{at}
use Rattle.arz_sites.specs.Sites.{workflows}
use Rattle.arz_components.specs.Indexes.{finds}
use Rattle.arz_names.specs.Names.{lost_names_with, lost_steps_of, lost_components, is_workflow, is_source}
use Rattle.arz_sites.proofs.Parts.{joined}
use Rattle.arz_names.proofs.references.first_lost_reference.Goals as goal

pub returns : goal.returns
returns c =
    let find = finds c.args.components.now in
    let root = c.args.root.now in
    let names = lost_names_with (is_workflow root) (is_source root) root in
    let steps = at workflows (lost_steps_of find) root in
    joined (names ++ steps) (lost_components find root) _ _ _ c.lesser.ensures
    (joined names steps _ _ _ c.lesser-named.ensures c.in_ok-names.ensures c.in_ok-steps.ensures)
    c.in_ok-uses.ensures
