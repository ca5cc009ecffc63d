use Rattle.std.proofs.Common.{arith}
use Rattle.std.proofs.lemmas.Grind.{text_groups}
use Rattle.arz_scope.proofs.fields.grouped.Goals as goal

pub loop-header-preserved : goal.loop-header-preserved
loop-header-preserved c = grind (arith, text_groups)
