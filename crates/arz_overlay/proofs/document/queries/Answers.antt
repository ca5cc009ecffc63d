use Rattle.std.proofs.Common.{◌∙◌, sym, subst}
use Rattle.arz_json.specs.Answer.{Fails}
use Rattle.arz_overlay.specs.Applied.{refusal_in}
use Rattle.arz_overlay.proofs.FirstTargets.{first_bad, not_taken}
use Rattle.arz_overlay.proofs.document.queries.Goals as goal

pub returns-in-None-clause-gives : goal.returns-in-None-clause-gives
returns-in-None-clause-gives c =
    let action = c.index-actions-at.result in
    let is = first_bad c.args.label.now c.args.actions.now c.loop-at.at action c.loop-at-test.true c.index-actions-at.is
    (not_taken _ _ (sym c.in-None.is ∙ c.in_ok-query.ensures)) c.loop-at.invariant.bad in
    subst (λ m. Fails (refusal_in c.bad_target.result) m) (sym is) c.bad_target.ensures.gives
