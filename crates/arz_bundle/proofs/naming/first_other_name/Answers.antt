use Rattle.std.proofs.Common.{rules}
use Rattle.arz_rules.specs.Place.{tokens_in}
use Rattle.arz_rules.specs.Sets.{has}
use Rattle.arz_rules.proofs.Steps.{bad_names_step}
use Rattle.arz_bundle.proofs.naming.first_other_name.Goals as goal

pub loop-member-preserved : goal.loop-member-preserved
loop-member-preserved c =
    bad_names_step (has c.args.set.now) _ (tokens_in c.loop-member.best) (tokens_in c.lesser-best.result) (tokens_in c.root_unless-found.result) c.args.members.now c.loop-member.member-index c.member-item.result
    c.loop-member.invariant c.loop-member-test.true c.member-item.is (search rules) (search rules)
