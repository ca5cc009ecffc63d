use Rattle.std.proofs.Common.{arith}
use Rattle.arz_path.proofs.Faults.{asked_then}
use Rattle.arz_overlay.specs.Overlaid.{overlaid_from}
use Rattle.arz_overlay.proofs.Overlays.{form_at, step_follows, step_fails, exit}
use Rattle.arz_overlay.proofs.applying.all_acted.Goals as goal

pub acted-requires-clause-action : goal.acted-requires-clause-action
acted-requires-clause-action g c = form_at c.args.actions.now c.loop-at.at c.index-actions-at.result c.requires.form c.loop-at-test.true c.index-actions-at.is

pub returns-in_err-work-clause-applies : goal.returns-in_err-work-clause-applies
returns-in_err-work-clause-applies g c =
    let first = g.P.Patterns.patterns c.args.rx.now in
    let old = g.P.Patterns.patterns c.loop-at.rx in
    let new = g.P.Patterns.patterns c.acted.new.rx in
    let all = overlaid_from first.told c.args.label.now 0 c.args.actions.now c.args.work.tree in
    let e = c.in_err-work.field-0.0 in
    let asked = c.loop-at.invariant.asked in
    exit c.from_residual.result e all first new c.from_residual.ensures.1
    (step_fails first.told c.args.label.now c.loop-at.at c.args.actions.now c.index-actions-at.result all c.loop-at.work.tree e first old new asked.told asked.count
    c.loop-at-test.true c.index-actions-at.is c.in_err-work.ensures.applies c.loop-at.invariant.follows)

pub loop-at-preserved : goal.loop-at-preserved
loop-at-preserved g c =
    let first = g.P.Patterns.patterns c.args.rx.now in
    let old = g.P.Patterns.patterns c.loop-at.rx in
    let all = overlaid_from first.told c.args.label.now 0 c.args.actions.now c.args.work.tree in
    let asked = c.loop-at.invariant.asked in
    let before = c.loop-at.invariant.nests in
    let after = c.in_ok-work.ensures.nests in
    record {
      follows = step_follows first.told old.told c.args.label.now c.loop-at.at c.args.actions.now c.index-actions-at.result all c.loop-at.work.tree c.in_ok-work.work.tree asked.told
          c.loop-at-test.true c.index-actions-at.is c.in_ok-work.ensures.applies c.loop-at.invariant.follows;
      asked = asked_then _ _ _ asked c.in_ok-work.ensures.asked;
      keeps = c.in_ok-work.ensures.keeps;
      nests = omega (arith, before, after);
    }
