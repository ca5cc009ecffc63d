use Rattle.std.proofs.Common.{length, refl, sym}
use Rattle.arz_wire.specs.Spelling.{counted}
use Rattle.arz_start.proofs.Lengths.{measures_same, text_bytes}
use Rattle.arz_start.proofs.length.text_length.Goals as goal

pub returns : goal.returns
returns c = measures_same c.sum.result _ _ (c.sum.ensures (length (counted c.args.text.now)) 1 c.counted_length.ensures refl) (sym (text_bytes c.args.text.now))
