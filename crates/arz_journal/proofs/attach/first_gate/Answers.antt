use Rattle.std.proofs.Common.{◌<◌, length, refl, arith, sym, ◌∙◌}
use Rattle.arz_journal.proofs.Begins.{looks_none, looks_on, reads_nine, gate_says}
use Rattle.arz_journal.proofs.attach.first_gate.Goals as goal

pub returns-in_err-count-clause-looks : goal.returns-in_err-count-clause-looks
returns-in_err-count-clause-looks g c = looks_on _ _ _ (looks_none _) c.read.ensures.call c.read.ensures.images c.read.ensures.file

pub returns-clause-looks : goal.returns-clause-looks
returns-clause-looks g c = looks_on _ _ _ (looks_none _) c.read.ensures.call c.read.ensures.images c.read.ensures.file

pub returns-clause-gives : goal.returns-clause-gives
returns-clause-gives g c = λ told size.
    let long : 9 < length (g.W.World.told c.args.world.now).file = omega (arith, size, c.if-size-le9.false) in
    let nine = reads_nine (g.W.World.told c.args.world.now).file _ _ _ (c.in_ok-count.ensures.bytes told) refl long in
    gate_says (g.W.World.told c.args.world.now).file _ long nine.0 (sym c.is_magic.ensures ∙ c.if-not-is_magic.false)
