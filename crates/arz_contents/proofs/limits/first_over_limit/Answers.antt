use Rattle.arz_contents.specs.Contents.{long_lists, large_numbers}
use Rattle.arz_sites.proofs.Parts.{joined}
use Rattle.arz_contents.proofs.limits.first_over_limit.Goals as goal

pub returns : goal.returns
returns c = joined (long_lists c.args.root.now) (large_numbers c.args.root.now) _ _ _ c.lesser.ensures c.in_ok-lists.ensures c.in_ok-numbers.ensures
