use Rattle.std.proofs.Common.{sym, ap, ◌∙◌, ◌||◌}
use Rattle.arz_relation.specs.Cases.{is_recorded}
use Rattle.arz_runs.proofs.Resuming.{recorded_after}
use Rattle.arz_runs.proofs.depending.is_completed.Goals as goal

pub returns-then-is_among : goal.returns-then-is_among
returns-then-is_among c =
    let w = c.args.workflow.now in
    c.if-is_among.true ∙ sym (recorded_after w c.args.newly.now c.args.done.now ∙ ap (λ o. o || is_recorded w c.args.done.now) (sym c.is_among.ensures ∙ c.if-is_among.true))

pub returns-else-is_among : goal.returns-else-is_among
returns-else-is_among c =
    let w = c.args.workflow.now in
    c.is_among-else-is_among.ensures ∙ sym (recorded_after w c.args.newly.now c.args.done.now ∙ ap (λ o. o || is_recorded w c.args.done.now) (sym c.is_among.ensures ∙ c.if-is_among.false))
