use Rattle.std.proofs.Common.{ap, ◌∙◌, length, arith}
use Rattle.arz_changes.specs.Weight.{weight, items_weight}
use Rattle.arz_wire.specs.Spelling.{number}
use Rattle.arz_wire.proofs.Measures.{list_length}
use Rattle.arz_changes.proofs.merging.list_items.Goals as goal

pub returns-in_ok-goes-in-List-clause-tallies : goal.returns-in_ok-goes-in-List-clause-tallies
returns-in_ok-goes-in-List-clause-tallies c =
    let whole = ap weight c.in-List.is ∙ list_length c.in-List.items in
    let same = ap items_weight c.into_std.ensures in
    let count = ap (λ n. length (number n)) c.len.ensures in
    let gone = c.in_ok-goes-in-List.ensures.gone in
    let come = c.in_ok-goes-in-List.ensures.come in
    record { balance = omega (arith, whole, same, count, gone, come) }
