use Rattle.std.proofs.Common.{◌≡◌, map, take}
use Rattle.arz_bundle.specs.Setup.{server_of}
use Rattle.arz_bundle.proofs.setup.read_servers.Given as goal

abbrev pub invariant-loop-member : goal.invariant-loop-member
invariant-loop-member l = l.servers.items ≡ map server_of (take l.member-index l.members)
