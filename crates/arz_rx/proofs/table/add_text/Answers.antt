use Rattle.std.proofs.Common.{string_bytes}
use Rattle.std.proofs.lemmas.Map.Text.{btree_map_updates_text}
use Rattle.arz_rx.proofs.Rows.{text_added}
use Rattle.arz_rx.proofs.table.add_text.Goals as goal

pub returns-clause-adds : goal.returns-clause-adds
returns-clause-adds c =
    let key = c.in_ok-from_str.field-0 in
    let sets = btree_map_updates_text (string_bytes key) c.args.row.now c.insert.new.self _ c.in_ok-insert.ensures.updates in
    text_added c.args.row.now c.insert.new.self (string_bytes key) c.args.text.now c.args.found c.in_ok-from_str.ensures.ok sets (rw (← c.contains_key.ensures) c.if-contains_key.false)
