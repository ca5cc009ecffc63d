use Rattle.std.proofs.Common.{◌≡◌, ◌++◌, drop, map, true}
use Rattle.arz_json.specs.Tree.{are_ordered, all_true, has_form}
use Rattle.arz_changes.specs.Merging.{added_items, merge_of, with_members}
use Rattle.arz_changes.specs.Weight.{Tallies, items_weight, members_weight}
use Rattle.arz_changes.proofs.Merges.{AreReady}
use Rattle.arz_changes.proofs.merging.+merge.Given as goal

abbrev pub invariant-joined-loop-item : goal.invariant-joined-loop-item
invariant-joined-loop-item l = record {
  form : all_true (map has_form (drop l.item-index l.item-items)) ≡ true;
  gives : l.items.items ++ added_items (drop l.item-index l.item-items) ≡ l.initial.items.items ++ added_items l.item-items;
  tallies : Tallies l.initial.tally l.tally (items_weight l.initial.items.items) (items_weight l.items.items);
}

abbrev pub invariant-put_members-loop-member : goal.invariant-put_members-loop-member
invariant-put_members-loop-member l = record {
  order : are_ordered (map (λ m. (m.name, has_form m.value)) (drop l.member-index l.member-items)) ≡ true;
  form : all_true (map (λ m. has_form m.value) (drop l.member-index l.member-items)) ≡ true;
  ready : AreReady l.all.items (drop l.member-index l.member-items);
  gives : with_members (map merge_of (drop l.member-index l.member-items)) (l.all.items ++ l.rest.items) ≡ with_members (map merge_of l.member-items) l.initial.rest.items;
  tallies : Tallies l.initial.tally l.tally (members_weight l.initial.rest.items) (members_weight (l.all.items ++ l.rest.items));
}
