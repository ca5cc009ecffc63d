use Rattle.arz_doc.proofs.Numbered.{some_test}
use Rattle.arz_doc.proofs.order.check.Goals as goal

pub returns-in-Err : goal.returns-in-Err
returns-in-Err c = let t = some_test c.args.root.now in (t.0, t.1, tt)
