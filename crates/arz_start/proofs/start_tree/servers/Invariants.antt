use Rattle.std.proofs.Common.{◌≡◌, map, take}
use Rattle.arz_start.specs.StartTree.{server_of}
use Rattle.arz_start.proofs.start_tree.servers.Given as goal

abbrev pub invariant-loop-server : goal.invariant-loop-server
invariant-loop-server l = l.members.items ≡ map server_of (take l.server-index l.servers)
