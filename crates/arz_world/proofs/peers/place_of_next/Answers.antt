use Rattle.std.proofs.Common.{◌∙◌}
use Rattle.arz_world.proofs.Pieces.{stands_there}
use Rattle.arz_world.proofs.peers.place_of_next.Goals as goal

pub returns-else-offset-as_slice : goal.returns-else-offset-as_slice
returns-else-offset-as_slice c =
    stands_there c.args.pieces.now c.loop-piece.piece c.loop-piece.offset c.as_slice.result.now c.index-pieces-piece.result c.as_slice.ensures c.index-pieces-piece.is c.loop-piece-test.true c.if-offset-as_slice.false
    ∙ c.loop-piece.invariant
