use Rattle.std.proofs.Common.{rules, arith}
use Rattle.arz_doc.proofs.Numbered.{number_step}
use Rattle.arz_doc.proofs.cycles.numbers_of.Goals as goal

pub loop-k-preserved : goal.loop-k-preserved
loop-k-preserved c =
    number_step c.loop-k.numbers c.put_number.new.numbers c.args.workflows.now c.loop-k.k c.index-workflows-k.result _ c.id_of.ensures c.in_ok-put_number.ensures
    (omega arith) (omega arith) c.index-workflows-k.is c.loop-k.invariant
