use Rattle.std.proofs.Common.{codes}
use Rattle.arz_rules.specs.Sites.{at}
use Rattle.arz_sites.specs.Sites.{only}
use Rattle.arz_contents.specs.Contents.{no_fraction}
use Rattle.arz_sites.proofs.Parts.{joined}
use Rattle.arz_contents.proofs.values.first_broken_number.Goals as goal

pub returns : goal.returns
returns c =
    let action = c.args.action.now in
    joined (at (only (codes "retryAfter")) no_fraction action) (at (only (codes "retryLimit")) no_fraction action) _ _ _ c.lesser.ensures c.in_ok-after.ensures c.in_ok-limit.ensures
