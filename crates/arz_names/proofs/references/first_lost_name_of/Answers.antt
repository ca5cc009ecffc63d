use Rattle.std.proofs.Common.{◌≡◌, ◌∙◌}
use Rattle.arz_rules.specs.Place.{least}
use Rattle.arz_rules.specs.Sets.{has}
use Rattle.arz_names.specs.Names.{lost_names_with, is_workflow, is_source}
use Rattle.arz_names.proofs.references.first_lost_name_of.Goals as goal

pub returns : goal.returns
returns c =
    let root = c.args.root.now in
    let same : least (lost_names_with (has c.in_ok-workflows.workflows) (has c.in_ok-sources.sources) root) ≡ least (lost_names_with (is_workflow root) (is_source root) root) =
    λ i. least (lost_names_with (λ q. c.in_ok-workflows.ensures q i) (λ q. c.in_ok-sources.ensures q i) root) in
    c.in_ok-found.ensures ∙ same
