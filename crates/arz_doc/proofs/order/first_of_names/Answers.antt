use Rattle.std.proofs.Common.{option_map, ap, sym, ◌∙◌}
use Rattle.arz_components.specs.Indexes.{finds}
use Rattle.arz_doc.specs.Cycles.{tells}
use Rattle.arz_doc.specs.Order.{name_rules, shape_rules, naming_rules, seen_failure}
use Rattle.arz_doc.proofs.Orders.{of_first, of_later}
use Rattle.arz_doc.proofs.order.first_of_names.Goals as goal

pub returns-in-Some : goal.returns-in-Some
unfolding name_rules
returns-in-Some c = of_first (shape_rules (finds c.args.components.now) c.args.root.now) (naming_rules (finds c.args.components.now) (tells c.args.cycles.now) c.args.root.now) (seen_failure c.in-Some.failure) (ap (option_map seen_failure) (sym c.in-Some.is) ∙ c.in_ok-failure.ensures)

pub returns : goal.returns
unfolding name_rules
returns c = of_later (shape_rules (finds c.args.components.now) c.args.root.now) (naming_rules (finds c.args.components.now) (tells c.args.cycles.now) c.args.root.now) (option_map seen_failure c.in_ok-later.later) (ap (option_map seen_failure) (sym c.in_default.is) ∙ c.in_ok-failure.ensures) c.in_ok-later.ensures
