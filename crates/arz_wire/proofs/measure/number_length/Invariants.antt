use Rattle.std.proofs.Common.{◌≡◌, ◌<◌, ◌+◌, ℕ, length}
use Rattle.arz_wire.specs.Spelling.{number, number_within}
use Rattle.arz_wire.proofs.Numbers.{reach}
use Rattle.arz_wire.proofs.measure.number_length.Given as goal

abbrev pub invariant-loop-rest : goal.invariant-loop-rest
invariant-loop-rest l = (k : ℕ) × (l.rest < reach k) × (l.bytes + k ≡ 10) × (l.bytes + length (number_within k l.rest) ≡ 1 + length (number l.n))

abbrev pub decreases-loop-rest : goal.decreases-loop-rest
decreases-loop-rest l = l.rest
