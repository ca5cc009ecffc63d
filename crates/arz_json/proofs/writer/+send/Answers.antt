use Rattle.std.proofs.Common.{◌≡◌, [], drop, sym, ap, ◌∙◌, subst, rules}
use Rattle.std.proofs.lemmas.List.{drop_all}
use Rattle.std.proofs.lemmas.Result.{on_ok_weaker}
use Rattle.serde_json.specs.Events.{SendsItems, SendsMembers}
use Rattle.arz_json.specs.Tree.{has_form}
use Rattle.arz_json.specs.declared.tree.Json.{the_lemmas}
use Rattle.arz_json.proofs.Layers.{members_form}
use Rattle.arz_json.proofs.Printing.{items_data, members_data, sends_list, sends_object}
use Rattle.arz_json.proofs.writer.+send.Goals as goal

pub send-send_members-requires : goal.send-send_members-requires
send-send_members-requires g t c κs within =
    let whole = sym (ap has_form c.in-Object.is) ∙ c.requires in
    (search (rules, the_lemmas), (search rules, (search rules, members_form c.in-Object.members whole)))

pub send_items-returns : goal.send_items-returns
send_items-returns g t c =
    let xs = c.as_slice-item-items.result.now in
    let same : xs ≡ c.args.items.now = c.as_slice-item-items.ensures in
    let first = g.S.Serializer.written c.begin_seq.new.self in
    let end = g.S.Serializer.written c.end_seq.new.self in
    let none : drop c.loop-item.item-index xs ≡ [] = drop_all c.loop-item.item-index xs c.loop-item-test.false in
    on_ok_weaker c.end_seq.result (λ e.
    let last = subst (λ ys. SendsItems (items_data ys) (g.S.Serializer.written c.loop-item.out) end) (sym none) e in
    sends_list c.args.items.now c.len.result _ first end c.len.ensures c.in_ok-begin_seq.ensures
    (subst (λ ys. SendsItems (items_data ys) first end) same (c.loop-item.invariant.1 end last))) c.end_seq.ensures

pub send_members-returns : goal.send_members-returns
send_members-returns g t c =
    let xs = c.as_slice-member-items.result.now in
    let same : xs ≡ c.args.members.now = c.as_slice-member-items.ensures in
    let first = g.S.Serializer.written c.begin_map.new.self in
    let end = g.S.Serializer.written c.end_map.new.self in
    let none : drop c.loop-member.member-index xs ≡ [] = drop_all c.loop-member.member-index xs c.loop-member-test.false in
    on_ok_weaker c.end_map.result (λ e.
    let last = subst (λ ys. SendsMembers (members_data ys) (g.S.Serializer.written c.loop-member.out) end) (sym none) e in
    sends_object c.args.members.now c.len.result _ first end c.len.ensures c.in_ok-begin_map.ensures
    (subst (λ ys. SendsMembers (members_data ys) first end) same (c.loop-member.invariant.1 end last))) c.end_map.ensures
