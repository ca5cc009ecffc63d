use Rattle.std.proofs.Common.{[], ◌∷◌, ◌++◌, ◌+◌, refl, ap₂, drop, map, length, sym, ap, ◌∙◌, subst, arith, rules, append_assoc}
use Rattle.arz_json.specs.Tree.{has_form, are_ordered, all_true, form_step}
use Rattle.arz_json.specs.declared.tree.Json.{the_lemmas}
use Rattle.arz_json.specs.declared.tree.Json.TheVariants.{List as ListOf}
use Rattle.arz_json.proofs.Layers.{members_form, folded-Object}
use Rattle.arz_wire.specs.Spelling.{number}
use Rattle.arz_wire.proofs.Measures.{list_length, object_length}
use Rattle.arz_changes.specs.Merging.{added_items, merged, merge_of, with_members}
use Rattle.arz_changes.specs.Weight.{items_weight, members_weight}
use Rattle.arz_changes.proofs.Weights.{items_weight-push}
use Rattle.arz_changes.proofs.Merges.{AreReady, AreBefore, Put, form_of, put_gives, put_ready, put_weighs}
use Rattle.arz_changes.proofs.MergedLevels.{merged_list}
use Rattle.arz_changes.proofs.Lists.{drop_at, left, right}
use Rattle.arz_changes.proofs.merging.+merge.Goals as goal

pub joined-loop-item-preserved : goal.joined-loop-item-preserved
joined-loop-item-preserved t c =
    let items = c.as_slice-item-items.result.now in
    let rest = drop_at items c.loop-item.item-index c.item-item.result (omega arith) c.item-item.is in
    let pushed = c.in_ok-push.ensures.items in
    let heavier = ap items_weight pushed ∙ items_weight-push c.loop-item.items.items c.in_ok-merged.field-0 in
    let before = c.loop-item.invariant.tallies.balance in
    let step = c.in_ok-merged.ensures.tallies.balance in
    record {
      form = right _ _ (sym (ap (λ js. all_true (map has_form js)) rest) ∙ c.loop-item.invariant.form);
      gives = ap (λ js. js ++ added_items (drop (c.loop-item.item-index + 1) items)) pushed ∙ append_assoc c.loop-item.items.items (c.in_ok-merged.field-0 ∷ []) _
          ∙ ap₂ (λ j js. c.loop-item.items.items ++ j ∷ js) c.in_ok-merged.ensures.gives refl ∙ ap (λ js. c.loop-item.items.items ++ added_items js) (sym rest) ∙ c.loop-item.invariant.gives;
      tallies = record { balance = omega (arith, heavier, before, step) };
    }

pub joined-returns-clause-tallies : goal.joined-returns-clause-tallies
joined-returns-clause-tallies t c =
    let whole = list_length c.from_std-items.result in
    let same = ap items_weight c.from_std-items.ensures in
    let count = ap (λ n. length (number n)) c.len.ensures in
    let start = c.in_ok-items.ensures.tallies.balance in
    let steps = c.loop-item.invariant.tallies.balance in
    let come = c.in_ok-comes.ensures.come in
    let gone = c.in_ok-comes.ensures.gone in
    record { balance = omega (arith, whole, same, count, start, steps, come, gone) }

pub merged-put_members-requires : goal.merged-put_members-requires
merged-put_members-requires t c =
    let opened = sym (folded-Object _ form_step c.in-Object.members) ∙ sym (ap has_form c.in-Object.is) ∙ c.requires in
    (search (rules, the_lemmas), (left _ _ opened, members_form c.in-Object.members (sym (ap has_form c.in-Object.is) ∙ c.requires)))

pub merged-returns-in_ok-joined-in-List-clause-gives : goal.merged-returns-in_ok-joined-in-List-clause-gives
merged-returns-in_ok-joined-in-List-clause-gives t c =
    ap ListOf c.in_ok-joined-in-List.ensures.gives ∙ sym (ap (λ u. merged u c.args.old) c.in-List.is ∙ merged_list c.in-List.items c.args.old)

pub put_members-loop-member-preserved : goal.put_members-loop-member-preserved
put_members-loop-member-preserved t c =
    let members = c.as_slice-member-items.result.now in
    let u = c.member-item.result in
    let us = drop (c.loop-member.member-index + 1) members in
    let rest = drop_at members c.loop-member.member-index u (omega arith) c.member-item.is in
    let inv = c.loop-member.invariant in
    let order = sym (ap (λ ms. are_ordered (map form_of ms)) rest) ∙ inv.order in
    let ready : AreBefore c.loop-member.all.items u.name = subst (AreReady c.loop-member.all.items) rest inv.ready in
    let put : Put u c.as_str.result.now c.as_str-in-loop-member.result.now c.loop-member.all.items c.loop-member.rest.items c.move_before.new.moved.items c.move_before.new.members.items
    c.take_named-there.new.members.items c.take_named-there.result c.in_ok-put_member.field-0 c.push.new.self.items = record {
      first = c.as_str.ensures;
      second = c.as_str-in-loop-member.ensures;
      moves = c.in_ok-move_before.ensures.moved;
      leaves = c.in_ok-move_before.ensures.rest;
      takes = c.take_named-there.ensures.value;
      behind = c.take_named-there.ensures.rest;
      makes = c.in_ok-put_member.ensures.gives;
      pushes = c.in_ok-push.ensures.items;
    } in
    let before = inv.tallies.balance in
    let step = c.in_ok-put_member.ensures.tallies.balance in
    let weighs = put_weighs u _ _ _ _ _ _ _ _ _ _ put in
    record {
      order = right _ _ order;
      form = right _ _ (sym (ap (λ ms. all_true (map (λ m. has_form m.value) ms)) rest) ∙ inv.form);
      ready = put_ready u _ _ _ _ _ _ _ _ _ _ put us (left _ _ order) ready;
      gives = put_gives u _ _ _ _ _ _ _ _ _ _ put us ready ∙ ap (λ ms. with_members (map merge_of ms) (c.loop-member.all.items ++ c.loop-member.rest.items)) (sym rest) ∙ inv.gives;
      tallies = record { balance = omega (arith, before, step, weighs) };
    }

pub put_members-returns-clause-tallies : goal.put_members-returns-clause-tallies
put_members-returns-clause-tallies t c =
    let joined = c.in_ok-append.ensures.items ∙ ap (λ ms. c.loop-member.all.items ++ ms) c.into_vec.ensures.items in
    let whole = object_length c.from_std-all.result in
    let same = ap members_weight (c.from_std-all.ensures ∙ joined) in
    let count = ap (λ n. length (number n)) c.len.ensures in
    let start = c.in_ok-members_of.ensures.tallies.balance in
    let first = ap members_weight c.from_vec-rest.ensures.items in
    let steps = c.loop-member.invariant.tallies.balance in
    let come = c.in_ok-comes.ensures.come in
    let gone = c.in_ok-comes.ensures.gone in
    record { balance = omega (arith, whole, same, count, start, first, steps, come, gone) }
