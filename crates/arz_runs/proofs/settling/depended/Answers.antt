use Rattle.std.proofs.Common.{reverse}
use Rattle.arz_scope.specs.Speaking.{completions_after}
use Rattle.arz_runs.proofs.Resuming.{ok_more, depends_on}
use Rattle.arz_runs.proofs.settling.depended.Goals as goal

pub returns-then-ending-clause-lands : goal.returns-then-ending-clause-lands
returns-then-ending-clause-lands c =
    ok_more _ _ c.depending.result
    (λ goal h told below sends r g. h told below sends r
    (depends_on told c.args.ground.now.bundle.now c.args.frame.now below (completions_after c.args.newly.now c.args.done.now) sends r c.args.from c.args.ending.completed c.args.ending.outputs c.if-ending.true g))
    c.depending.ensures.lands
