use Rattle.std.proofs.Common.{ap, ◌∙◌}
use Rattle.std.specs.Prelude.{slice_get}
use Rattle.std.specs.Option.{option_copied}
use Rattle.arz_runs.proofs.Asking.{got, step_found}
use Rattle.arz_runs.proofs.look.Look.step.Goals as goal

pub returns : goal.returns
returns c =
    let look = c.args.self.now in
    let i = c.args.index in
    let h = c.get.ensures.lookup in
    step_found look.ground.now.bundle.now look.frame.now.workflow look.plan.now look.planned i (option_copied c.get.result)
    (got c.deref.result.now i c.get.result h.3 h.1 ∙ ap (λ l. slice_get l i) c.deref.ensures.value)
