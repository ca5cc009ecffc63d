use Rattle.std.proofs.Common.{Some, option_map, sym, ap, ◌∙◌}
use Rattle.std.proofs.lemmas.Map.Text.{btree_map_updates_str}
use Rattle.arz_openapi.proofs.Indexed.{put}
use Rattle.arz_openapi.proofs.operations.put_site.Goals as goal

pub returns-in_ok-insert-in-Some : goal.returns-in_ok-insert-in-Some
returns-in_ok-insert-in-Some c =
    put c.args.sites.now c.insert.new.self c.args.site c.in-Some.id.now
    (btree_map_updates_str c.in-Some.id.now c.args.sites.now c.insert.new.self (Some c.args.site) c.in_ok-insert-in-Some.ensures.updates)
    (ap (option_map (λ t. t.now)) (sym c.in-Some.is) ∙ c.id_of_site.ensures)
