use Rattle.std.proofs.Common.{◌≡◌, ℕ, ◌+◌, map, drop, length}
use Rattle.arz_wire.specs.Spelling.{number, member_spellings}
use Rattle.arz_start.specs.Lengths.{Measures}
use Rattle.arz_start.specs.StartTree.{server_of}
use Rattle.arz_start.proofs.length.servers_length.Given as goal

abbrev pub invariant-loop-server : goal.invariant-loop-server
invariant-loop-server l = (a : ℕ) × Measures l.total a × (a + length (member_spellings (map server_of (drop l.server-index l.servers))) ≡ 1 + length (number (length l.servers)) + length (member_spellings (map server_of l.servers)))
