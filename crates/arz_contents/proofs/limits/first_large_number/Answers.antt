use Rattle.std.proofs.Common.{codes}
use Rattle.arz_rules.specs.Sites.{at}
use Rattle.arz_sites.specs.Sites.{only, each_action}
use Rattle.arz_contents.specs.Contents.{above}
use Rattle.arz_sites.proofs.Parts.{joined}
use Rattle.arz_contents.proofs.limits.first_large_number.Goals as goal

pub returns : goal.returns
returns c =
    let root = c.args.root.now in
    joined (each_action (at (only (codes "retryLimit")) (above 1000)) root) (each_action (at (only (codes "retryAfter")) (above 86400)) root) _ _ _ c.lesser.ensures c.in_ok-limits.ensures c.in_ok-delays.ensures
