use Rattle.std.proofs.Common.{subst}
use Rattle.arz_world.specs.Crash.{IsDiskOf}
use Rattle.arz_world.specs.Replay.{start}
use Rattle.arz_world.proofs.Crashes.{replay_more}
use Rattle.arz_world.proofs.tape.replayed.Goals as goal

pub loop-call-preserved : goal.loop-call-preserved
loop-call-preserved c =
    subst (λ s. IsDiskOf c.take.new.self s) (replay_more (start c.args.first.now) c.args.calls.now c.loop-call.call-index c.call-item.result c.loop-call-test.true c.call-item.is) (c.in_ok-take.ensures _ c.loop-call.invariant)
