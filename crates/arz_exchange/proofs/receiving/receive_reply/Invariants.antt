use Rattle.std.proofs.Common.{◌≡◌, ◌-◌, ◌<◌, length}
use Rattle.arz_exchange.specs.Conversing.{SoFar}
use Rattle.arz_exchange.proofs.receiving.receive_reply.Given as goal

abbrev pub invariant-pieces : goal.invariant-pieces
invariant-pieces g l = record {
  so_far : SoFar (g.W.World.told l.fn.world) (g.W.World.told l.world) l.reader;
  head_only : l.reader.head_only ≡ l.fn.reader.head_only;
  room : 0 < length l.buffer;
}

abbrev pub decreases-pieces : goal.decreases-pieces
decreases-pieces g l = 1114113 - length l.reader.bytes
