use Rattle.std.proofs.Common.{option_map, ap, sym, ◌∙◌}
use Rattle.arz_doc.specs.Order.{content_rules, value_rules, sending_rules, seen_failure}
use Rattle.arz_doc.proofs.Orders.{of_first, of_later}
use Rattle.arz_doc.proofs.order.first_of_contents.Goals as goal

pub returns-in-Some : goal.returns-in-Some
unfolding content_rules
returns-in-Some c = of_first (value_rules c.args.root.now) (sending_rules c.args.root.now) (seen_failure c.in-Some.failure) (ap (option_map seen_failure) (sym c.in-Some.is) ∙ c.in_ok-failure.ensures)

pub returns : goal.returns
unfolding content_rules
returns c = of_later (value_rules c.args.root.now) (sending_rules c.args.root.now) (option_map seen_failure c.in_ok-later.later) (ap (option_map seen_failure) (sym c.in_default.is) ∙ c.in_ok-failure.ensures) c.in_ok-later.ensures
