use Rattle.std.proofs.Common.{ap, ◌∙◌, length, arith}
use Rattle.arz_wire.specs.Spelling.{number}
use Rattle.arz_wire.proofs.Measures.{list_length}
use Rattle.arz_changes.specs.Weight.{weight, items_weight}
use Rattle.arz_changes.proofs.Weights.{items_weight-push}
use Rattle.arz_changes.proofs.changing.with_item.Goals as goal

pub returns-clause-tallies : goal.returns-clause-tallies
returns-clause-tallies c =
    let before = list_length c.args.items in
    let after = list_length c.push.new.self in
    let more = ap items_weight c.in_ok-push.ensures.ok ∙ items_weight-push c.args.items c.in_ok-copy.field-0 in
    let same = ap weight c.in_ok-copy.ensures in
    let first = ap (λ n. length (number n)) c.len.ensures in
    let second = ap (λ n. length (number n)) c.len-2.ensures in
    let a = c.in_ok-goes.ensures.gone in
    let b = c.in_ok-goes.ensures.come in
    let d = c.in_ok-comes.ensures.come in
    let e = c.in_ok-comes.ensures.gone in
    let f = c.in_ok-tree_comes.ensures.come in
    let g = c.in_ok-tree_comes.ensures.gone in
    record { balance = omega (arith, before, after, more, same, first, second, a, b, d, e, f, g) }
