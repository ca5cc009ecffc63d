use Rattle.std.proofs.Common.{◌≡◌, codes, option_map, ◌∙◌}
use Rattle.arz_rules.specs.Sites.{in_items}
use Rattle.arz_rules.specs.Sets.{has}
use Rattle.arz_components.specs.Indexes.{finds}
use Rattle.arz_sources.specs.Rules.{gives}
use Rattle.arz_sources.specs.Served.{found_in}
use Rattle.arz_sources.specs.Failures.{seen_failure, fails, first_of}
use Rattle.arz_sources.proofs.Items.{items_under}
use Rattle.arz_sources.proofs.steps.first_in_workflow.Goals as goal

pub returns : goal.returns
returns c =
    let find = found_in c.args.sources.now in
    let component = finds c.args.components.now in
    let steps = c.items_at-steps.result.now in
    let same : first_of (λ rule. in_items (fails rule find component (has c.in_ok-given.given)) 0 steps)
    ≡ first_of (λ rule. in_items (fails rule find component (gives component c.args.workflow.now)) 0 steps) =
    λ i. first_of (λ rule. in_items (fails rule find component (λ q. c.in_ok-given.ensures q i)) 0 steps) in
    items_under (codes "steps") (λ rule. fails rule find component (gives component c.args.workflow.now)) c.args.workflow.now steps
    (option_map seen_failure c.in_ok-found.found) (option_map seen_failure c.in_ok-placed.placed)
    c.items_at-steps.ensures (c.in_ok-found.ensures ∙ same) c.in_ok-placed.ensures
