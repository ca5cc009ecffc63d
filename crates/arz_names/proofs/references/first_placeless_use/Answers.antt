use Rattle.std.proofs.Common.{◌++◌}
use Rattle.arz_rules.specs.Sites.{at}
use Rattle.arz_sites.specs.Sites.{workflows, steps, parameters_of}
use Rattle.arz_components.specs.Indexes.{finds}
use Rattle.arz_names.specs.Names.{wrong_use, has_place}
use Rattle.arz_sites.specs.Wants.{unless_flow}
use Rattle.arz_components.specs.declared.components.Part.TheVariants.{Parameters}
use Rattle.arz_sites.proofs.Parts.{joined}
use Rattle.arz_names.proofs.references.first_placeless_use.Goals as goal

pub returns : goal.returns
returns c =
    let placed = wrong_use (finds c.args.components.now) Parameters has_place in
    joined (at (workflows ++ parameters_of) placed c.args.root.now) (at steps (unless_flow (at parameters_of placed)) c.args.root.now) _ _ _ c.lesser.ensures c.in_ok-of_workflows.ensures c.in_ok-of_steps.ensures
