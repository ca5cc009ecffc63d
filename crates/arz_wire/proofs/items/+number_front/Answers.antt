use Rattle.std.proofs.Common.{◌≡◌, ◌-◌, get_or, ap, arith}
use Rattle.arz_wire.proofs.Bytes.{bound_least, bound_most}
use Rattle.arz_wire.proofs.items.+number_front.Goals as goal

pub returns-then-more-eq0-clause-below : goal.returns-then-more-eq0-clause-below
returns-then-more-eq0-clause-below t c =
    let first : get_or c.args.bytes.now 0 0 ≡ c.in_ok-b.b.now = ap (λ l. get_or l 0 0) c.in_ok-b.ensures.cases.0 in
    omega (arith, first, c.type_inv.bytes 0, bound_least c.args.more)

pub overflow_mul-result : goal.overflow_mul-result
overflow_mul-result t c = omega (arith, c.in_ok-high.ensures.below, bound_most (c.args.more - 1) (omega arith))

pub overflow_add-result : goal.overflow_add-result
overflow_add-result t c = omega (arith, c.in_ok-high.ensures.below, bound_most (c.args.more - 1) (omega arith))
