use Rattle.std.proofs.Common.{refl, sym, arith}
use Rattle.arz_json.specs.declared.tree.Json.{out-Json}
use Rattle.arz_json.proofs.Puts.{child_form}
use Rattle.arz_changes.proofs.looking.+standing.Goals as goal

pub standing-requires : goal.standing-requires
standing-requires t c =
    let less = c.in-Some.ensures.cases.1 in
    (omega (arith, less), child_form c.args.tree.now (out-Json c.args.tree.now) c.in_ok-at.at c.in_ok-child.field-0.now refl (sym c.in_ok-child.ensures) c.requires)
