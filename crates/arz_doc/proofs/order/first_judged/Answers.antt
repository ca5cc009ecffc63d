use Rattle.std.proofs.Common.{option_map, ap, sym, ◌∙◌}
use Rattle.arz_components.specs.Indexes.{finds}
use Rattle.arz_doc.specs.Cycles.{tells}
use Rattle.arz_doc.specs.Order.{rules_before, name_rules, judged_rules, seen_failure}
use Rattle.arz_doc.proofs.Orders.{of_first, of_later}
use Rattle.arz_doc.proofs.order.first_judged.Goals as goal

pub returns-in-Some : goal.returns-in-Some
unfolding rules_before
returns-in-Some c = of_first (name_rules (finds c.args.components.now) (tells c.args.cycles.now) c.args.root.now) (judged_rules c.args.root.now) (seen_failure c.in-Some.failure) (ap (option_map seen_failure) (sym c.in-Some.is) ∙ c.in_ok-failure.ensures)

pub returns : goal.returns
unfolding rules_before
returns c = of_later (name_rules (finds c.args.components.now) (tells c.args.cycles.now) c.args.root.now) (judged_rules c.args.root.now) (option_map seen_failure c.in_ok-later.later) (ap (option_map seen_failure) (sym c.in_default.is) ∙ c.in_ok-failure.ensures) c.in_ok-later.ensures
