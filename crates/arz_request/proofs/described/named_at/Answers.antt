use Rattle.std.proofs.Common.{arith, refl, sym, ◌∙◌}
use Rattle.std.proofs.lemmas.Map.Text.{btree_map_updates_str}
use Rattle.arz_operation.specs.Named.{is_same}
use Rattle.arz_request.proofs.Named.{put-first}
use Rattle.arz_request.proofs.described.named_at.Goals as goal

pub loop-k-preserved-in_ok-insert : goal.loop-k-preserved-in_ok-insert
loop-k-preserved-in_ok-insert c =
    put-first (λ d. d.now) (λ d. d.name) (λ d. is_same d.place c.args.place) c.loop-k.names c.insert.new.self c.args.parameters.now c.loop-k.k c.index-parameters-k.result _ c.as_str.result.now
    (λ q. btree_map_updates_str c.as_str.result.now c.loop-k.names c.insert.new.self _ c.in_ok-insert.ensures.updates q)
    c.as_str.ensures refl (sym c.is_same.ensures ∙ c.if-is_same.true) (omega arith) (omega arith) c.index-parameters-k.is c.loop-k.invariant
