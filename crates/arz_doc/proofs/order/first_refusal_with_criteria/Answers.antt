use Rattle.std.proofs.Common.{option_map, ap, sym, ◌∙◌}
use Rattle.arz_criteria.proofs.Agreed.{readings_are_told}
use Rattle.arz_doc.specs.Order.{seen_failure}
use Rattle.arz_doc.proofs.Wholes.{whole_first, whole_later}
use Rattle.arz_doc.proofs.order.first_refusal_with_criteria.Goals as goal

pub returns-in-Some-clause-first : goal.returns-in-Some-clause-first
returns-in-Some-clause-first g c =
    let root = c.args.root.now in
    let before = c.in_ok-failure.ensures in
    let some = readings_are_told (g.P.Patterns.patterns c.args.rx.now).told root in
    (before.0, before.1, some.0, some.1, whole_first root before.0 some.0 (seen_failure c.in-Some.failure) (ap (option_map seen_failure) (sym c.in-Some.is) ∙ before.2))

pub returns-clause-first : goal.returns-clause-first
returns-clause-first g c =
    let root = c.args.root.now in
    let before = c.in_ok-failure.ensures in
    let later = c.in_ok-found.ensures.first in
    (before.0, before.1, later.0, later.1, whole_later root before.0 later.0 (option_map seen_failure c.in_ok-found.found) (ap (option_map seen_failure) (sym c.in_default.is) ∙ before.2) later.2)
