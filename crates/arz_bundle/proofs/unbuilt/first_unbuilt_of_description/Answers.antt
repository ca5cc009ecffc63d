use Rattle.arz_rules.specs.Sites.{at_each}
use Rattle.arz_sites.proofs.Parts.{joined, on_sites}
use Rattle.arz_bundle.specs.Unbuilt.{everywhere, second_workflow, unbuilt_members}
use Rattle.arz_bundle.proofs.unbuilt.first_unbuilt_of_description.Goals as goal

pub returns : goal.returns
returns c =
    let root = c.args.root.now in
    joined (second_workflow root) (at_each unbuilt_members everywhere root) _ _ _ c.lesser.ensures c.in_ok-second.ensures
    (on_sites everywhere root unbuilt_members _ _ c.unbuilt_members.ensures c.in_ok-members.ensures)
