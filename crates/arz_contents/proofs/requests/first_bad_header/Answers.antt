use Rattle.std.proofs.Common.{◌++◌}
use Rattle.arz_rules.specs.Sites.{at}
use Rattle.arz_sites.specs.Sites.{workflows, steps, parameters_of, each_component, unless_reuse}
use Rattle.arz_contents.specs.Contents.{bad_header}
use Rattle.arz_sites.specs.Wants.{unless_flow}
use Rattle.arz_components.specs.declared.components.Part.TheVariants.{Parameters}
use Rattle.arz_sites.proofs.Parts.{joined}
use Rattle.arz_contents.proofs.requests.first_bad_header.Goals as goal

pub returns : goal.returns
returns c =
    let root = c.args.root.now in
    let flows = at (workflows ++ parameters_of) (unless_reuse bad_header) root in
    let calls = at steps (unless_flow (at parameters_of (unless_reuse bad_header))) root in
    joined (flows ++ calls) (at (each_component Parameters) bad_header root) _ _ _ c.lesser.ensures
    (joined flows calls _ _ _ c.lesser-listed.ensures c.in_ok-of_workflows.ensures c.in_ok-of_steps.ensures)
    c.in_ok-shared.ensures
