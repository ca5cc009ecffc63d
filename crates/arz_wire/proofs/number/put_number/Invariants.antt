use Rattle.std.proofs.Common.{◌≡◌, ◌<◌, ◌++◌, ℕ}
use Rattle.arz_wire.specs.Spelling.{number, number_within}
use Rattle.arz_wire.proofs.Numbers.{reach}
use Rattle.arz_wire.proofs.number.put_number.Given as goal

abbrev pub invariant-loop-rest : goal.invariant-loop-rest
invariant-loop-rest l = (k : ℕ) × (l.rest < reach k) × (l.out.items ++ number_within k l.rest ≡ l.initial.out.items ++ number l.n)

abbrev pub decreases-loop-rest : goal.decreases-loop-rest
decreases-loop-rest l = l.rest
