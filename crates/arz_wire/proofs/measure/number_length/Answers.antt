use Rattle.std.proofs.Common.{length, refl, arith, ap}
use Rattle.arz_wire.proofs.Numbers.{number_within-last}
use Rattle.arz_wire.proofs.Measures.{one_byte_more}
use Rattle.arz_wire.proofs.measure.number_length.Goals as goal

pub loop-rest-init : goal.loop-rest-init
loop-rest-init c = (9, omega arith, refl, refl)

pub loop-rest-preserved : goal.loop-rest-preserved
loop-rest-preserved c =
    let inv = c.loop-rest.invariant in
    let more = one_byte_more inv.0 c.loop-rest.rest (omega arith) inv.1 in
    (more.0, more.2, omega (arith, inv.2, more.1), omega (arith, inv.3, more.3))

pub returns-clause-exact : goal.returns-clause-exact
returns-clause-exact c =
    let inv = c.loop-rest.invariant in
    let last = ap length (number_within-last inv.0 c.loop-rest.rest (omega arith)) in
    omega (arith, inv.3, last)
