use Rattle.std.proofs.Common.{[]}
use Rattle.arz_rules.specs.Place.{tokens_in}
use Rattle.arz_rules.proofs.Steps.{sites_step}
use Rattle.arz_rules.proofs.sites.first_at_each.Goals as goal

pub loop-ways-preserved : goal.loop-ways-preserved
loop-ways-preserved g c =
    sites_step (g.C.Check.places c.args.check.now) c.args.tree.now _ (tokens_in c.loop-ways.best) (tokens_in c.lesser-best.result) (tokens_in c.in_ok-first_at.field-0) c.args.sites.now c.loop-ways.ways-index (record { ref_ptr = (0, 0); now = [] })
    c.loop-ways.invariant c.loop-ways-test.true c.in_ok-first_at.ensures c.lesser-best.ensures
