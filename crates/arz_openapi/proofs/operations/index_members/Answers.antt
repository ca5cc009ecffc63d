use Rattle.std.proofs.Common.{rules, arith, refl}
use Rattle.std.proofs.lemmas.Map.Text.{btree_map_updates_str}
use Rattle.arz_openapi.proofs.Indexed.{index_step}
use Rattle.arz_openapi.proofs.operations.index_members.Goals as goal

pub loop-k-preserved : goal.loop-k-preserved
loop-k-preserved c =
    index_step c.loop-k.map c.insert.new.self c.args.members.now c.loop-k.k c.index-members-k.result c.as_str.result.now _
    (λ q. btree_map_updates_str c.as_str.result.now c.loop-k.map c.insert.new.self _ c.in_ok-insert.ensures.updates q)
    (search rules) refl (omega arith) (omega arith) c.index-members-k.is c.loop-k.invariant
