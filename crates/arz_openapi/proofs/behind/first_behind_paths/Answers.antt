use Rattle.arz_rules.specs.Place.{tokens_in}
use Rattle.arz_openapi.proofs.Steps.{paths_step}
use Rattle.arz_openapi.proofs.behind.first_behind_paths.Goals as goal

pub loop-member-preserved : goal.loop-member-preserved
loop-member-preserved c =
    paths_step c.args.root.now _ (tokens_in c.loop-member.best) (tokens_in c.lesser-best.result) (tokens_in c.in_ok-found.found) c.members_at-member-items.result.now c.loop-member.member-index c.member-item.result
    c.loop-member.invariant c.loop-member-test.true c.member-item.is c.in_ok-found.ensures c.lesser-best.ensures
