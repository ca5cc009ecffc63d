use Rattle.std.proofs.Common.{◌≡◌, ◌++◌, length, string_bytes, IsUtf8}
use Rattle.arz_operation.specs.Servers.{filled}
use Rattle.arz_operation.proofs.servers.push_filled.Given as goal

-- what stands there and what is left make the whole
abbrev pub invariant-cuts : goal.invariant-cuts
invariant-cuts l = (string_bytes l.out ++ filled l.variables l.rest ≡ string_bytes l.initial.out ++ filled l.variables l.url) × IsUtf8 l.rest

abbrev pub decreases-cuts : goal.decreases-cuts
decreases-cuts l = length l.rest
