use Rattle.std.proofs.Common.{ap, sym, ◌∙◌}
use Rattle.std.specs.Option.{option_copied}
use Rattle.arz_json.specs.Tree.{IsWellFormed}
use Rattle.arz_json.specs.declared.Json.TheVariants.{Object}
use Rattle.arz_flow.proofs.Within.{workflow-within}
use Rattle.arz_machine.proofs.Entering.{given_if, outputs_as, well_formed}
use Rattle.arz_machine.proofs.run.Run.outputs.Goals as goal

pub returns-clause-well_formed : goal.returns-clause-well_formed
returns-clause-well_formed c =
    let run = c.args.self.now in
    let b = run.bundle.now in
    let w = c.in-Some.workflow.now in
    given_if (λ given. IsWellFormed (Object given)) c.outputs.result c.outputs.ensures.well_formed
    (well_formed w (workflow-within 127 b.workflow b.arazzo w (sym run.named ∙ ap option_copied c.in-Some.is) run.sound.arazzo))

pub returns-clause-value : goal.returns-clause-value
returns-clause-value c =
    let run = c.args.self.now in
    outputs_as c.outputs.result run.bundle.now run.facts c.in_ok-scope.scope c.in-Some.workflow.now
    c.in_ok-scope.ensures (sym run.named ∙ ap option_copied c.in-Some.is) c.outputs.ensures.value
