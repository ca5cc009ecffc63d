use Rattle.arz_rules.specs.Sites.{at_each}
use Rattle.arz_sites.specs.Sites.{listed_actions, shared_actions, unless_reuse}
use Rattle.arz_sites.proofs.Parts.{joined, on_sites}
use Rattle.arz_sites.proofs.guards.first_in_actions.Goals as goal

pub returns : goal.returns
returns g c =
    let check = g.C.Check.places c.args.check.now in
    let root = c.args.root.now in
    joined (at_each listed_actions (unless_reuse check) root) (at_each shared_actions check root) _ _ _ c.lesser.ensures
    (on_sites (unless_reuse check) root listed_actions _ _ c.listed_actions.ensures c.in_ok-listed.ensures)
    (on_sites check root shared_actions _ _ c.shared_actions.ensures c.in_ok-shared.ensures)
