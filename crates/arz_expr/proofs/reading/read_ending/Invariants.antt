use Rattle.std.proofs.Common.{length, IsUtf8}
use Rattle.arz_expr.proofs.Steps.{Goes}
use Rattle.arz_expr.proofs.reading.read_ending.Given as goal

abbrev pub invariant-steps : goal.invariant-steps
invariant-steps l = Goes l.fn.text l.tail l.rest × IsUtf8 l.rest

abbrev pub decreases-steps : goal.decreases-steps
decreases-steps l = length l.rest
