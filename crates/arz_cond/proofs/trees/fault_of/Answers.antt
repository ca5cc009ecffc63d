use Rattle.std.proofs.Common.{◌≡◌, true, arith}
use Rattle.std.proofs.lemmas.Grind.{common_steps}
use Rattle.arz_cond.specs.Criteria.{criterion_at}
use Rattle.arz_cond.specs.Outcomes.{can_be_read}
use Rattle.arz_cond.proofs.Functions.{told_tree}
use Rattle.arz_cond.proofs.trees.fault_of.Goals as goal

pub returns : goal.returns
returns c =
    let j = c.args.tree.now in
    let readable : can_be_read (criterion_at j) ≡ true = grind (arith, common_steps) in
    told_tree j c.of.result c.if_fault.result readable c.of.ensures.text c.of.ensures.reading c.of.ensures.fault c.if_fault.ensures
