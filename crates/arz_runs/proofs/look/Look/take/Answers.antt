use Rattle.std.proofs.Common.{◌≡◌, false, ap, sym, subst, ◌∙◌}
use Rattle.std.specs.Prelude.{nat_le}
use Rattle.arz_relation.specs.Retries.{made_of, once_more}
use Rattle.arz_relation.specs.Documents.{index_of, steps_of}
use Rattle.arz_runs.specs.Scenes.{bundle_in}
use Rattle.arz_runs.proofs.Attempts.{takes_end, takes_step, takes_flow, takes_retry, on_ok}
use Rattle.arz_runs.proofs.look.Look.take.Goals as goal

pub returns-in-End-clause-takes : goal.returns-in-End-clause-takes
returns-in-End-clause-takes c = on_ok c.close.result (λ next is. takes_end c.args.self.now c.args.judged.now c.args.counts.now c.args.action.now next c.in-End.is is) c.close.ensures.closed

pub returns-in-GoStep-clause-takes : goal.returns-in-GoStep-clause-takes
returns-in-GoStep-clause-takes c =
    let l = c.args.self.now in
    takes_step l c.args.judged.now c.args.counts.now c.args.action.now c.in-GoStep.id c.index_of.result c.enter_anew.result c.in-GoStep.is
    (c.index_of.ensures ∙ ap (λ q. index_of q (steps_of (bundle_in l) l.frame.now.workflow)) c.as_str.ensures) c.enter_anew.ensures

pub returns-in-GoFlow-clause-takes : goal.returns-in-GoFlow-clause-takes
returns-in-GoFlow-clause-takes c = on_ok c.opening.result (λ next is. takes_flow c.args.self.now c.args.judged.now c.args.counts.now c.args.action.now c.in-GoFlow.workflow next c.in-GoFlow.is is) c.opening.ensures

pub returns-in_ok-counts-in-Retry-clause-takes : goal.returns-in_ok-counts-in-Retry-clause-takes
returns-in_ok-counts-in-Retry-clause-takes c = on_ok c.retry.result (λ next leads.
    takes_retry c.args.self.now c.args.judged.now c.args.counts.now c.args.action.now c.in-Retry.seconds c.in-Retry.limit c.in-Retry.before c.in_ok-counts-in-Retry.counts c.delay.result next c.in-Retry.is
    (λ left. subst (λ q. c.in_ok-counts-in-Retry.counts ≡ once_more q c.args.counts.now) c.as_str-in-Retry.ensures
    (c.in_ok-counts-in-Retry.ensures (subst (λ q. nat_le c.in-Retry.limit (made_of q c.args.counts.now) ≡ false) (sym c.as_str-in-Retry.ensures) left)))
    c.delay.ensures leads) c.retry.ensures.leads
