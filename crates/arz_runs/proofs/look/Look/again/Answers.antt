use Rattle.arz_runs.proofs.Attempts.{same_counts, on_ok}
use Rattle.arz_runs.proofs.look.Look.again.Goals as goal

pub returns-clause-lands : goal.returns-clause-lands
returns-clause-lands c = on_ok c.begin_again.result (λ next lands told.
    same_counts told c.args.self.now c.args.index c.args.planned.now.step.now c.args.counts.now c.in_ok-counts.counts c.args.before.now next c.in_ok-counts.ensures (lands told)) c.begin_again.ensures.lands
