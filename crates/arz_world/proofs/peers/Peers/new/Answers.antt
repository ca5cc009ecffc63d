use Rattle.std.proofs.Common.{ℕ, List, ap}
use Rattle.arz_world.specs.MemoryWorld.{PeersInMemory}
use Rattle.arz_world.proofs.Pieces.{none_come}
use Rattle.arz_world.proofs.peers.Peers.new.Goals as goal

pub returns : goal.returns
returns c =
    let view : List (List ℕ) → PeersInMemory = λ l. record { peers = c.args.peers; to_come = l } in
    ap view (none_come c.args.peers c.len-none.result c.len-none.ensures)
