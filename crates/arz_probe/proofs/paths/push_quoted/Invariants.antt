use Rattle.std.proofs.Common.{◌≡◌, ◌++◌, drop}
use Rattle.std.specs.List.{flat_map}
use Rattle.arz_probe.specs.Paths.{quoted_byte}
use Rattle.arz_probe.proofs.paths.push_quoted.Given as goal

abbrev pub invariant-loop-byte : goal.invariant-loop-byte
invariant-loop-byte l = l.fn.text.items ++ flat_map quoted_byte l.fn.name ≡ l.text.items ++ flat_map quoted_byte (drop l.byte-index l.fn.name)
