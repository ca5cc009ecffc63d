use Rattle.std.proofs.Common.{◌≡◌, ◌∙◌}
use Rattle.arz_rules.specs.Place.{least}
use Rattle.arz_rules.specs.Sets.{has}
use Rattle.arz_components.specs.Indexes.{finds}
use Rattle.arz_names.specs.Names.{lost_steps, lost_steps_of}
use Rattle.arz_names.proofs.references.first_lost_step_of.Goals as goal

pub returns : goal.returns
returns c =
    let find = finds c.args.components.now in
    let same : least (lost_steps find (has c.in_ok-steps.steps) c.args.workflow.now) ≡ least (lost_steps_of find c.args.workflow.now) =
    λ i. least (lost_steps find (λ q. c.in_ok-steps.ensures q i) c.args.workflow.now) in
    c.in_ok-found.ensures ∙ same
