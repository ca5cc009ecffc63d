use Rattle.std.proofs.Common.{◌≡◌, drop, map, true}
use Rattle.serde.specs.Event.{Log}
use Rattle.serde_json.specs.Events.{SendsItems, SendsMembers}
use Rattle.arz_json.specs.Tree.{has_form, all_true}
use Rattle.arz_json.proofs.Printing.{items_data, members_data}
use Rattle.arz_json.proofs.writer.+send.Given as goal

-- whatever ends it well from here ends it well from the start
abbrev pub invariant-send_items-loop-item : goal.invariant-send_items-loop-item
invariant-send_items-loop-item g l =
    (all_true (map has_form (drop l.item-index l.item-items)) ≡ true)
    × ((end : Log) → SendsItems (items_data (drop l.item-index l.item-items)) (g.S.Serializer.written l.out) end → SendsItems (items_data l.item-items) (g.S.Serializer.written l.initial.out) end)

abbrev pub invariant-send_members-loop-member : goal.invariant-send_members-loop-member
invariant-send_members-loop-member g l =
    (all_true (map (λ m. has_form m.value) (drop l.member-index l.member-items)) ≡ true)
    × ((end : Log) → SendsMembers (members_data (drop l.member-index l.member-items)) (g.S.Serializer.written l.out) end → SendsMembers (members_data l.member-items) (g.S.Serializer.written l.initial.out) end)
