use Rattle.std.proofs.Common.{rules, map, true, ◌≡◌, ◌∙◌, sym, ap, Some}
use Rattle.std.specs.Option.{option_copied}
use Rattle.arz_json.specs.Tree.{has_form, all_true}
use Rattle.arz_json.specs.Look.{object_in, member_in}
use Rattle.arz_json.specs.declared.tree.Member.{Member}
use Rattle.arz_rules.specs.Sites.{seen_way, found}
use Rattle.arz_rules.proofs.InForm.{item_form, value_form, member_form, object_members}
use Rattle.arz_criteria.proofs.Gathered.{items_gathered, members_gathered}
use Rattle.arz_criteria.proofs.patterns.+patterns.Goals as goal

pub put_from_items-put_patterns-requires : goal.put_from_items-put_patterns-requires
put_from_items-put_patterns-requires t c =
    let h : all_true (map has_form c.args.items.now) ≡ true = search rules in
    (search rules, ap has_form c.item-item.is ∙ item_form c.args.items.now c.loop-item.item-index c.item-item.result h c.loop-item-test.true)

pub put_from_members-put_patterns-requires : goal.put_from_members-put_patterns-requires
put_from_members-put_patterns-requires t c =
    let h : all_true (map (λ m. has_form m.value) c.args.members.now) ≡ true = search rules in
    (search rules, ap (λ (m : Member). has_form m.value) c.member-item.is ∙ value_form c.args.members.now c.loop-member.member-index c.member-item.result h c.loop-member-test.true)

pub put_patterns-put_patterns-requires : goal.put_patterns-put_patterns-requires
put_patterns-put_patterns-requires t c =
    let h : has_form c.args.tree.now ≡ true = search rules in
    let e : member_in c.in-Member.name.now c.args.tree.now ≡ Some c.in-Some-child.value.now = sym c.child.ensures ∙ ap option_copied c.in-Some-child.is in
    (search rules, member_form c.in-Member.name.now c.args.tree.now c.in-Some-child.value.now e h)

pub put_patterns-put_from_members-requires : goal.put_patterns-put_from_members-requires
put_patterns-put_from_members-requires t c =
    let h : has_form c.args.tree.now ≡ true = search rules in
    let e : object_in c.args.tree.now ≡ Some c.in-Some-as_object.members.now = sym c.as_object.ensures ∙ ap option_copied c.in-Some-as_object.is in
    (search rules, object_members c.args.tree.now c.in-Some-as_object.members.now e h)

pub put_from_items-loop-item-preserved : goal.put_from_items-loop-item-preserved
put_from_items-loop-item-preserved t c =
    items_gathered (found (map seen_way c.args.rest.now)) _ _ _ c.args.items.now c.loop-item.item-index c.item-item.result c.loop-item-test.true c.item-item.is c.loop-item.invariant c.in_ok-put_patterns.ensures

pub put_from_members-loop-member-preserved : goal.put_from_members-loop-member-preserved
put_from_members-loop-member-preserved t c =
    members_gathered (found (map seen_way c.args.rest.now)) _ _ _ c.args.members.now c.loop-member.member-index c.member-item.result c.loop-member-test.true c.member-item.is c.loop-member.invariant c.in_ok-put_patterns.ensures
