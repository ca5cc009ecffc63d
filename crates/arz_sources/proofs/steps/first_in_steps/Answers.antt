use Rattle.std.proofs.Common.{option_map, ap, sym, ◌∙◌}
use Rattle.arz_rules.specs.Sets.{has}
use Rattle.arz_components.specs.Indexes.{finds}
use Rattle.arz_sources.specs.Served.{found_in}
use Rattle.arz_sources.specs.Failures.{seen_failure, fails, lesser_failure}
use Rattle.arz_sources.proofs.Items.{items_step}
use Rattle.arz_sources.proofs.Firsts.{first-none}
use Rattle.arz_sources.proofs.steps.first_in_steps.Goals as goal

pub loop-i-init : goal.loop-i-init
loop-i-init c = sym first-none

pub loop-i-preserved : goal.loop-i-preserved
loop-i-preserved c =
    items_step (λ rule. fails rule (found_in c.args.sources.now) (finds c.args.components.now) (has c.args.given.now))
    (option_map seen_failure c.loop-i.best) (option_map seen_failure c.lesser_failure-best.result) (option_map seen_failure c.in_ok-found.found) c.args.steps.now c.loop-i.i c.index-steps-i.result
    c.loop-i.invariant c.loop-i-test.true c.index-steps-i.is c.in_ok-found.ensures
    (c.lesser_failure-best.ensures ∙ ap (lesser_failure (option_map seen_failure c.loop-i.best)) c.in_ok-below_item.ensures)
