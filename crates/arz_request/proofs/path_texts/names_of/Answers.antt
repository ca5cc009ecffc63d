use Rattle.std.proofs.Common.{arith, refl, sym, ◌∙◌}
use Rattle.std.proofs.lemmas.Map.Text.{btree_map_updates_str}
use Rattle.arz_json.specs.declared.Location.TheVariants as place
use Rattle.arz_request.specs.Parameters.{is_at}
use Rattle.arz_request.proofs.Named.{put-first}
use Rattle.arz_request.proofs.path_texts.names_of.Goals as goal

pub loop-k-preserved-in_ok-insert : goal.loop-k-preserved-in_ok-insert
loop-k-preserved-in_ok-insert c =
    put-first (λ w. w.now) (λ w. w.sent.name) (is_at place.Path) c.loop-k.names c.insert.new.self c.args.written.now c.loop-k.k c.index-written-k.result _ c.name.result.now
    (λ q. btree_map_updates_str c.name.result.now c.loop-k.names c.insert.new.self _ c.in_ok-insert.ensures.updates q)
    c.name.ensures refl (sym c.is_at.ensures ∙ c.if-is_at.true) (omega arith) (omega arith) c.index-written-k.is c.loop-k.invariant
