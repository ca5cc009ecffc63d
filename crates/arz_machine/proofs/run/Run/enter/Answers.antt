use Rattle.std.proofs.Common.{sym, ap, ◌∙◌}
use Rattle.arz_request.specs.Causes.{Made}
use Rattle.arz_world.specs.declared.Request.{Request}
use Rattle.arz_flow.specs.Cases.{spot}
use Rattle.arz_machine.specs.States.{run_of, rest_by, request_in}
use Rattle.arz_machine.proofs.Entering.{the_step, sent_by, spent_by, stuck_at, stuck_by}
use Rattle.arz_machine.proofs.run.Run.enter.Goals as goal

pub returns-in-Ok-clause-entered : goal.returns-in-Ok-clause-entered
returns-in-Ok-clause-entered c = λ step at.
    let b = c.args.self.now.bundle.now in
    let facts = c.args.self.now.facts in
    spent_by b facts step c.is_spent.result c.in-Ok.field-0 c.is_spent.ensures c.if-is_spent.true
    ∙ ap (λ (made : Made Request). rest_by b facts made (spot (run_of b facts) step)) (sym (c.in-Ok.ensures.builds step at))

pub returns-in-Ok-2-clause-entered : goal.returns-in-Ok-2-clause-entered
returns-in-Ok-2-clause-entered c = λ step at.
    let b = c.args.self.now.bundle.now in
    let facts = c.args.self.now.facts in
    sent_by b facts step c.is_spent.result c.in-Ok.field-0 c.is_spent.ensures c.if-is_spent.false
    ∙ ap (λ (made : Made Request). rest_by b facts made (spot (run_of b facts) step)) (sym (c.in-Ok.ensures.builds step at))

pub returns-in_ok-spot-in-Err-Stuck-clause-entered : goal.returns-in_ok-spot-in-Err-Stuck-clause-entered
returns-in_ok-spot-in-Err-Stuck-clause-entered c = λ step at.
    let run = c.args.self.now in
    let b = run.bundle.now in
    let made = request_in b run.facts step in
    stuck_at b run.facts _ step (the_step run.steps.now c.args.index c.index-self-index.result step at)
    c.in_ok-spot-in-Err-Stuck.field-0 c.in-Err-Stuck.cause c.in_ok-spot-in-Err-Stuck.ensures
    ∙ ap (λ (m : Made Request). rest_by b run.facts m (spot (run_of b run.facts) step))
    (sym (stuck_by c.in-Err-Stuck.field-0 c.in-Err-Stuck.cause made (c.in-Err-Stuck.ensures.builds step at) c.in-Err-Stuck.field-0-is))
