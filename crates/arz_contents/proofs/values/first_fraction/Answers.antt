use Rattle.arz_rules.specs.Sites.{at_each}
use Rattle.arz_sites.specs.Sites.{values, each_action}
use Rattle.arz_contents.specs.Contents.{no_fraction, broken_numbers}
use Rattle.arz_sites.proofs.Parts.{joined, on_sites}
use Rattle.arz_contents.proofs.values.first_fraction.Goals as goal

pub returns : goal.returns
returns c =
    let root = c.args.root.now in
    joined (at_each values no_fraction root) (each_action broken_numbers root) _ _ _ c.lesser.ensures
    (on_sites no_fraction root values _ _ c.values.ensures c.in_ok-given.ensures)
    c.in_ok-actions.ensures
