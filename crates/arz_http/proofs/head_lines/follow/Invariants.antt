use Rattle.std.proofs.Common.{◌≡◌, drop}
use Rattle.arz_http.specs.HeadSteps.{followed}
use Rattle.arz_http.proofs.head_lines.follow.Given as goal

abbrev pub invariant-loop-byte : goal.invariant-loop-byte
invariant-loop-byte l = followed l.at (drop l.byte-index l.bytes) ≡ followed l.fn.at l.bytes
