use Rattle.std.proofs.Common.{◌≡◌, ◌∙◌}
use Rattle.arz_rules.specs.Phases.{first_failure}
use Rattle.arz_components.specs.Described.{component}
use Rattle.arz_components.specs.Indexes.{finds}
use Rattle.arz_doc.specs.Cycles.{tells}
use Rattle.arz_doc.specs.Order.{rules_before}
use Rattle.arz_doc.proofs.order.first_before_patterns.Goals as goal

pub returns : goal.returns
returns c =
    let told = tells c.in_ok-cycles.cycles in
    let same : first_failure (rules_before (finds c.in_ok-components.components) told c.args.root.now) ≡ first_failure (rules_before (component c.args.root.now) told c.args.root.now) =
    λ i. first_failure (rules_before (λ part q. c.in_ok-components.ensures part q i) told c.args.root.now) in
    (told, c.in_ok-cycles.ensures, c.in_ok-found.ensures ∙ same)
