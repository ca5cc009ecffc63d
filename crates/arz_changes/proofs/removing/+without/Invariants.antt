use Rattle.std.proofs.Common.{◌≡◌, ◌+◌, ◌*◌, ◌++◌, ◌∷◌, [], drop}
use Rattle.arz_changes.specs.Removal.{items_kept, members_kept}
use Rattle.arz_changes.specs.Groups.{ways_seen}
use Rattle.arz_changes.specs.Weight.{Tallies, weight, items_weight, members_weight}
use Rattle.arz_changes.proofs.removing.+without.Given as goal

abbrev pub decreases-without : goal.decreases-without
decreases-without l = 8 * weight l.tree

abbrev pub decreases-kept_child : goal.decreases-kept_child
decreases-kept_child l = 8 * weight l.child + 1

abbrev pub decreases-kept_member : goal.decreases-kept_member
decreases-kept_member l = 8 * members_weight (l.member ∷ []) + 2

abbrev pub decreases-kept_items : goal.decreases-kept_items
decreases-kept_items l = 8 * items_weight l.items + 3

abbrev pub decreases-left_items : goal.decreases-left_items
decreases-left_items l = 8 * items_weight l.items.items + 2

abbrev pub decreases-kept_members : goal.decreases-kept_members
decreases-kept_members l = 8 * members_weight l.members + 4

abbrev pub decreases-left_members : goal.decreases-left_members
decreases-left_members l = 8 * members_weight l.members.items + 3

abbrev pub invariant-left_items-loop-group : goal.invariant-left_items-loop-group
invariant-left_items-loop-group l = record {
  rest : l.rest.items ≡ drop l.group-index l.initial.rest.items;
  gives : l.kept.items ++ items_kept (ways_seen l.ways) l.group-index l.rest.items ≡ items_kept (ways_seen l.ways) 0 l.initial.rest.items;
  tallies : Tallies l.initial.tally l.tally (items_weight l.initial.rest.items) (items_weight (l.kept.items ++ l.rest.items));
}

abbrev pub invariant-left_members-loop-group : goal.invariant-left_members-loop-group
invariant-left_members-loop-group l = record {
  rest : l.rest.items ≡ drop l.group-index l.initial.rest.items;
  gives : l.kept.items ++ members_kept (ways_seen l.ways) l.rest.items ≡ members_kept (ways_seen l.ways) l.initial.rest.items;
  tallies : Tallies l.initial.tally l.tally (members_weight l.initial.rest.items) (members_weight (l.kept.items ++ l.rest.items));
}
