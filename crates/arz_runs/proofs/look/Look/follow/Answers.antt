use Rattle.std.proofs.Common.{ap, ◌∙◌}
use Rattle.arz_runs.specs.declared.frames.Then.TheVariants.{Acts}
use Rattle.arz_runs.specs.declared.goals.Goal.TheVariants.{Attempt}
use Rattle.arz_runs.proofs.Attempts.{entered_again}
use Rattle.arz_runs.proofs.look.Look.follow.Goals as goal

pub returns-in_ok-enter-in-Again-clause-leads : goal.returns-in_ok-enter-in-Again-clause-leads
returns-in_ok-enter-in-Again-clause-leads g c =
    entered_again (g.P.Patterns.patterns c.args.rx.now).told c.args.self.now c.args.judged.now c.args.next.now c.in-Again.step c.in-Again.counts c.in_ok-enter-in-Again.field-0 c.in-Again.is
    (c.in_ok-enter-in-Again.ensures ∙ ap (λ x. Attempt c.in-Again.step (Acts x)) c.as_slice-in-Again.ensures)
