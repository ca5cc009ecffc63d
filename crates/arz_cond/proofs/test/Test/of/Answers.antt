use Rattle.std.proofs.Common.{subst, codes, IfErr}
use Rattle.std.specs.Option.{option_copied}
use Rattle.arz_json.specs.Look.{text_at}
use Rattle.arz_cond.specs.Criteria.{Refuses, text_named, criterion_at}
use Rattle.arz_cond.proofs.Functions.{same_texts}
use Rattle.arz_cond.proofs.test.Test.of.Goals as goal

pub returns-clause-fault : goal.returns-clause-fault
returns-clause-fault c =
    let j = c.args.tree.now in
    subst (λ k. IfErr c.read.result (Refuses k))
    (same_texts c.kind_of.result.now (criterion_at j).kind c.text_at.result.now (text_at (codes "condition") j) (option_copied c.text_named.result) (text_named (codes "context") j) c.kind_of.ensures c.text_at.ensures c.text_named.ensures)
    c.read.ensures.fault
