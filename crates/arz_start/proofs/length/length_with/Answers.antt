use Rattle.std.proofs.Common.{◌+◌, length, ap}
use Rattle.arz_wire.specs.Spelling.{number}
use Rattle.arz_start.proofs.Lengths.{measures_same, start_bytes}
use Rattle.arz_start.proofs.length.length_with.Goals as goal

pub returns : goal.returns
returns c = λ documents.
    let b = c.args.bundle.now in
    let begun = ap (λ n. 1 + n) c.number_length.ensures.exact in
    measures_same c.sum.result _ _
    (c.sum.ensures _ _ (c.sum-servers.ensures _ _ (c.sum-limits.ensures _ _ (c.sum-first.ensures (1 + length (number 8)) _ begun c.first_length.ensures) c.limits_length.ensures) c.servers_member.ensures) (c.last_length.ensures documents))
    (start_bytes b)
