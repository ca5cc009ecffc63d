use Rattle.std.proofs.Common.{◌==◌, arith}
use Rattle.arz_runs.specs.Scenes.{bundle_in}
use Rattle.arz_runs.proofs.Attempts.{leads_now, leads_wait, either, neither, on_ok}
use Rattle.arz_runs.proofs.look.Look.retry.Goals as goal
use Rattle.arz_runs.proofs.look.Look.retry.Goals.{then-seconds-eq0-via-then-seconds-eq0, then-seconds-eq0-via-else-seconds-eq0+then-self}

pub returns-then-seconds-eq0-clause-leads : goal.returns-then-seconds-eq0-clause-leads
returns-then-seconds-eq0-clause-leads c = on_ok c.begin_again.result (λ next lands told.
    let l = c.args.self.now in
    leads_now told l c.args.index c.args.planned.now.step.now c.args.counts c.args.seconds c.args.before.now next
    (elim c.then-seconds-eq0.branch [
      | then-seconds-eq0-via-then-seconds-eq0 w ↦ search (w.if-seconds-eq0.true, arith)
      | then-seconds-eq0-via-else-seconds-eq0+then-self w ↦ either (c.args.seconds == 0) (bundle_in l).skip_delay w.if-self.true
    ]) (lands told)) c.begin_again.ensures.lands

pub returns-clause-leads : goal.returns-clause-leads
returns-clause-leads c = λ told.
    let l = c.args.self.now in
    leads_wait told l c.args.index c.args.planned.now.step.now c.args.counts c.args.seconds c.args.before.now c.in_ok-before.before
    c.in_ok-before.ensures c.requires.0 (neither (c.args.seconds == 0) (bundle_in l).skip_delay (search (c.if-seconds-eq0.false, arith)) c.if-self.false)
