use Rattle.arz_json.specs.Tree.{IsWellFormed}
use Rattle.arz_json.specs.declared.Json.TheVariants.{Object}
use Rattle.arz_runs.proofs.Asking.{given_if, workflow_sound}
use Rattle.arz_runs.proofs.look.Look.outputs.Goals as goal

pub returns-clause-well_formed : goal.returns-clause-well_formed
returns-clause-well_formed c =
    let look = c.args.self.now in
    let ground = look.ground.now in
    given_if (λ outputs. IsWellFormed (Object outputs)) c.outputs.result c.outputs.ensures.well_formed
    (workflow_sound ground.bundle.now look.frame.now.workflow look.plan.now look.planned ground.sound.arazzo)
