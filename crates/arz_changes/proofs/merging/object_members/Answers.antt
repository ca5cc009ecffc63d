use Rattle.std.proofs.Common.{ap, ◌∙◌, length, arith}
use Rattle.arz_changes.specs.Weight.{weight, members_weight}
use Rattle.arz_wire.specs.Spelling.{number}
use Rattle.arz_wire.proofs.Measures.{object_length}
use Rattle.arz_changes.proofs.merging.object_members.Goals as goal

pub returns-in_ok-goes-in-Object-clause-tallies : goal.returns-in_ok-goes-in-Object-clause-tallies
returns-in_ok-goes-in-Object-clause-tallies c =
    let whole = ap weight c.in-Object.is ∙ object_length c.in-Object.members in
    let same = ap members_weight c.into_std.ensures in
    let count = ap (λ n. length (number n)) c.len.ensures in
    let gone = c.in_ok-goes-in-Object.ensures.gone in
    let come = c.in_ok-goes-in-Object.ensures.come in
    record { balance = omega (arith, whole, same, count, gone, come) }
