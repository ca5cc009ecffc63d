use Rattle.std.proofs.Common.{sym, ◌∙◌}
use Rattle.arz_runs.proofs.Attempts.{went_on, went_off, broke_off, on_ok}
use Rattle.arz_runs.proofs.look.Look.go_on.Goals as goal
use Rattle.arz_runs.proofs.look.Look.go_on.Goals.{else-succeeded-via-then-succeeded+else-is_some, else-succeeded-via-else-succeeded}

pub returns-then-is_some-clause-leads : goal.returns-then-is_some-clause-leads
returns-then-is_some-clause-leads c = λ told.
    went_on told c.args.self.now c.args.index c.args.succeeded c.step.result c.enter_anew.result c.step.ensures c.if-succeeded.true (sym c.is_some.ensures ∙ c.if-is_some.true) c.enter_anew.ensures

pub returns-clause-leads : goal.returns-clause-leads
returns-clause-leads c = on_ok c.close.result (λ next is told.
    let l = c.args.self.now in
    elim c.else-succeeded.branch [
      | else-succeeded-via-then-succeeded+else-is_some w ↦ went_off told l c.args.index c.args.succeeded w.step.result next w.step.ensures w.if-succeeded.true (sym w.is_some.ensures ∙ w.if-is_some.false) is
      | else-succeeded-via-else-succeeded w ↦ broke_off told l c.args.index c.args.succeeded next w.if-succeeded.false is
    ]) c.close.ensures.closed
