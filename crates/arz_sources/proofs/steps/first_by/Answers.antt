use Rattle.std.proofs.Common.{codes, option_map, ◌∙◌}
use Rattle.arz_components.specs.Indexes.{finds}
use Rattle.arz_sources.specs.Rules.{gives, at_items}
use Rattle.arz_sources.specs.Served.{found_in}
use Rattle.arz_sources.specs.Failures.{seen_failure, fails}
use Rattle.arz_sources.proofs.Items.{items_under}
use Rattle.arz_sources.proofs.Numbers.{first-rules}
use Rattle.arz_sources.proofs.steps.first_by.Goals as goal

pub returns : goal.returns
returns c =
    let find = found_in c.args.sources.now in
    let component = finds c.args.components.now in
    items_under (codes "workflows") (λ rule workflow. at_items (codes "steps") (fails rule find component (gives component workflow)) workflow) c.args.description.now c.items_at-workflows.result.now
    (option_map seen_failure c.in_ok-found.found) (option_map seen_failure c.in_ok-placed.placed)
    c.items_at-workflows.ensures c.in_ok-found.ensures c.in_ok-placed.ensures
    ∙ first-rules find component c.args.description.now
