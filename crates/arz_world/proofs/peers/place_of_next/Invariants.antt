use Rattle.std.proofs.Common.{◌≡◌, ◌-◌, drop, length}
use Rattle.arz_world.specs.MemoryWorld.{from_next, behind}
use Rattle.arz_world.proofs.peers.place_of_next.Given as goal

abbrev pub decreases-loop-piece : goal.decreases-loop-piece
decreases-loop-piece l = length l.pieces - l.piece

abbrev pub invariant-loop-piece : goal.invariant-loop-piece
invariant-loop-piece l = from_next (behind l.offset (drop l.piece l.pieces)) ≡ from_next (behind l.fn.offset (drop l.fn.piece l.pieces))
