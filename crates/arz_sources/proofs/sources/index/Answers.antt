use Rattle.std.proofs.Common.{arith, refl}
use Rattle.std.proofs.lemmas.Map.Text.{btree_map_updates_str}
use Rattle.arz_sources.proofs.Indexed.{index_step}
use Rattle.arz_sources.proofs.sources.index.Goals as goal

pub loop-k-preserved : goal.loop-k-preserved
loop-k-preserved c =
    index_step c.loop-k.names c.insert.new.self c.args.list.now c.loop-k.k c.index-list-k.result _
    (λ q. btree_map_updates_str c.index-list-k.result.name.now c.loop-k.names c.insert.new.self _ c.in_ok-insert.ensures.updates q)
    refl (omega arith) (omega arith) c.index-list-k.is c.loop-k.invariant
