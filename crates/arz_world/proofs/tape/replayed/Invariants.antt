use Rattle.std.proofs.Common.{take}
use Rattle.arz_world.specs.Crash.{IsDiskOf}
use Rattle.arz_world.specs.Replay.{replay, start}
use Rattle.arz_world.proofs.tape.replayed.Given as goal

abbrev pub invariant-loop-call : goal.invariant-loop-call
invariant-loop-call l = IsDiskOf l.disk (replay (start l.first) (take l.call-index l.calls))
