use Rattle.std.proofs.Common.{rules, arith, refl}
use Rattle.std.proofs.lemmas.Map.Text.{btree_map_updates_str}
use Rattle.arz_runs.proofs.Reading.{index_step}
use Rattle.arz_runs.proofs.plans.indexes.Goals as goal

pub loop-k-preserved : goal.loop-k-preserved
loop-k-preserved c =
    index_step c.loop-k.indexes c.insert.new.self c.args.steps.now c.loop-k.k c.index-steps-k.result c.text_at.result.now _
    (λ q. btree_map_updates_str c.text_at.result.now c.loop-k.indexes c.insert.new.self _ c.in_ok-insert.ensures.updates q)
    (search rules) refl (omega arith) (omega arith) c.index-steps-k.is c.loop-k.invariant
