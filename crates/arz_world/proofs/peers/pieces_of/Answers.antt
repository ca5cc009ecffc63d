use Rattle.std.proofs.Common.{◌∙◌, sym}
use Rattle.arz_world.proofs.Pieces.{peer_is, peer_past}
use Rattle.arz_world.proofs.peers.pieces_of.Goals as goal

pub returns-in-Some : goal.returns-in-Some
returns-in-Some c = c.as_slice.ensures ∙ sym (peer_is c.args.peers.now c.args.number _ (sym c.in-Some.ensures))

pub returns-in-None : goal.returns-in-None
returns-in-None c = sym (peer_past c.args.peers.now c.args.number (sym c.in-None.ensures))
