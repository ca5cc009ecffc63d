use Rattle.std.proofs.Common.{ap, ◌∙◌}
use Rattle.arz_relation.specs.Documents.{index_of, steps_of}
use Rattle.arz_runs.specs.Scenes.{bundle_in}
use Rattle.arz_runs.proofs.Attempts.{again_nothing, again_step, again_flow}
use Rattle.arz_runs.proofs.look.Look.begin_again.Goals as goal
use Rattle.arz_runs.proofs.look.Look.begin_again.Goals.{in-Nothing, in-Step, in-Flow+in_ok-opening-in-Flow}

pub returns-clause-lands : goal.returns-clause-lands
returns-clause-lands c = λ told.
    let l = c.args.self.now in
    let i = c.args.index in
    let step = c.args.planned.now.step.now in
    let counts = c.args.counts in
    let before = c.args.before.now in
    elim c.match-before.branch [
      | in-Nothing w ↦ again_nothing told l i step counts before c.match-before.result w.in-Nothing.is w.result-is
      | in-Step w ↦ again_step told l w.in-Step.id i w.index_of.result step counts before c.match-before.result w.in-Step.is
          (w.index_of.ensures ∙ ap (λ q. index_of q (steps_of (bundle_in l) l.frame.now.workflow)) w.as_str.ensures)
          w.result-is
      | in-Flow+in_ok-opening-in-Flow w ↦ again_flow told l w.in-Flow.workflow i step counts before c.match-before.result w.in-Flow.is
          (w.result-is ∙ w.in_ok-opening-in-Flow.ensures)
    ]
