use Rattle.std.proofs.Common.{length, pos, ap, arith}
use Rattle.arz_wire.proofs.Layers.{spelling_int}
use Rattle.arz_start.proofs.length.integer_length.Goals as goal

pub returns : goal.returns
returns c = omega (arith, c.number_length.ensures.exact, ap length (spelling_int (pos c.args.number)))
