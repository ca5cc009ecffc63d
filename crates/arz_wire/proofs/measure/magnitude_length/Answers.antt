use Rattle.std.proofs.Common.{sym, arith}
use Rattle.std.proofs.lemmas.Int.{ints}
use Rattle.arz_wire.proofs.Measures.{long_number}
use Rattle.arz_wire.proofs.measure.magnitude_length.Goals as goal

pub returns-then-n-ge18446744073709551616-clause-exact : goal.returns-then-n-ge18446744073709551616-clause-exact
returns-then-n-ge18446744073709551616-clause-exact c = λ m is. sym (long_number m (omega (arith, ints, is)))
