use Rattle.std.proofs.Common.{◌++◌, codes}
use Rattle.arz_rules.specs.Sites.{at}
use Rattle.arz_sites.specs.Sites.{each_action, criteria_of, steps, items_of}
use Rattle.arz_sites.proofs.Parts.{joined}
use Rattle.arz_sites.proofs.guards.first_in_criteria.Goals as goal

pub returns : goal.returns
returns g c =
    let check = g.C.Check.places c.args.check.now in
    let root = c.args.root.now in
    joined (at (steps ++ items_of (codes "successCriteria")) check root) (each_action (at criteria_of check) root) _ _ _ c.lesser.ensures c.in_ok-of_steps.ensures c.in_ok-of_actions.ensures
