use Rattle.std.proofs.Common.{sym, subst}
use Rattle.arz_runs.specs.Grounds.{IsFound}
use Rattle.arz_runs.proofs.ground.Ground.plan.Goals as goal

pub returns : goal.returns
returns c = let it = c.args.self.now in subst (IsFound it.bundle.now c.args.workflow.now) (sym c.get.ensures.value) (it.planned c.args.workflow.now)
