use Rattle.std.proofs.Common.{◌++◌}
use Rattle.arz_components.specs.Indexes.{finds}
use Rattle.arz_names.specs.Names.{repeated_names, repeated_actions, repeated_givens}
use Rattle.arz_sites.proofs.Parts.{joined}
use Rattle.arz_names.proofs.duplicates.first_duplicate.Goals as goal

pub returns : goal.returns
returns c =
    let find = finds c.args.components.now in
    let root = c.args.root.now in
    joined (repeated_names find root ++ repeated_actions find root) (repeated_givens find root) _ _ _ c.lesser.ensures
    (joined (repeated_names find root) (repeated_actions find root) _ _ _ c.lesser-named.ensures c.in_ok-names.ensures c.in_ok-actions.ensures)
    c.in_ok-givens.ensures
