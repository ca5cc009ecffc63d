use Rattle.std.proofs.Common.{◌++◌, codes}
use Rattle.arz_rules.specs.Sites.{at}
use Rattle.arz_sites.specs.Sites.{only, workflows}
use Rattle.arz_contents.specs.Contents.{longer}
use Rattle.arz_sites.proofs.Parts.{joined}
use Rattle.arz_contents.proofs.limits.first_long_list.Goals as goal

pub returns : goal.returns
returns c =
    let root = c.args.root.now in
    let sources = at (only (codes "sourceDescriptions")) (longer 16) root in
    let flows = at (only (codes "workflows")) (longer 256) root in
    let steps = at (workflows ++ only (codes "steps")) (longer 256) root in
    joined (sources ++ flows) steps _ _ _ c.lesser.ensures
    (joined sources flows _ _ _ c.lesser-outer.ensures c.in_ok-sources.ensures c.in_ok-workflows.ensures)
    c.in_ok-steps.ensures
