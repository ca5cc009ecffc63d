use Rattle.std.proofs.Common.{◌≡◌, ◌++◌, length}
use Rattle.arz_http.specs.Readings.{taking}
use Rattle.arz_probe.proofs.replies.read_all.Given as goal

abbrev pub invariant-pieces : goal.invariant-pieces
invariant-pieces l = (l.reader.seen ≡ taking) × (l.reader.head_only ≡ l.fn.head_only) × (l.reader.bytes ++ l.rest ≡ l.fn.came)

abbrev pub decreases-pieces : goal.decreases-pieces
decreases-pieces l = length l.rest
