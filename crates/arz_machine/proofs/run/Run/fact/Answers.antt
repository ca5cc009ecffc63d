use Rattle.std.proofs.Common.{Some, ap, ◌∙◌}
use Rattle.arz_machine.specs.Spoken.{spoken}
use Rattle.arz_machine.proofs.Entering.{the_step, fact_as}
use Rattle.arz_machine.proofs.run.Run.fact.Goals as goal

pub returns-clause-fact : goal.returns-clause-fact
returns-clause-fact c = λ step at.
    let run = c.args.self.now in
    fact_as run.bundle.now run.facts _ step (the_step run.steps.now c.args.index c.index-self-index.result step at)
    c.in_ok-scope.scope c.args.ready.now.request c.args.reply.now _ _
    (c.in_ok-scope.ensures ∙ ap (λ e. spoken run.bundle.now run.facts (Some e)) c.in_ok-exchange.ensures)
    (c.in_ok-from_str.ensures ∙ c.text_at.ensures) c.in_ok-outputs.ensures.value
