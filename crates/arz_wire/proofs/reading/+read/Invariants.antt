use Rattle.std.proofs.Common.{◌≡◌, ◌-◌, ◌+◌, ◌*◌, None}
use Rattle.arz_wire.specs.Reading.{tree_at, items_at, members_at}
use Rattle.arz_wire.specs.Names.{last_name}
use Rattle.arz_wire.proofs.Rows.{with_front}
use Rattle.arz_wire.proofs.reading.+read.Given as goal

abbrev pub decreases-tree_of : goal.decreases-tree_of
decreases-tree_of l = 2 * l.levels

abbrev pub decreases-items_of : goal.decreases-items_of
decreases-items_of l = 2 * l.levels + 1

abbrev pub decreases-members_of : goal.decreases-members_of
decreases-members_of l = 2 * l.levels + 1

abbrev pub invariant-items_of-loop : goal.invariant-items_of-loop
invariant-items_of-loop l =
    with_front l.items.items (items_at (tree_at l.total l.levels) (l.count - l.counter) l.rest)
    ≡ items_at (tree_at l.total l.levels) l.count l.initial.rest

abbrev pub invariant-members_of-loop : goal.invariant-members_of-loop
invariant-members_of-loop l =
    with_front l.members.items (members_at (tree_at l.total l.levels) l.total (last_name l.members.items) (l.count - l.counter) l.rest)
    ≡ members_at (tree_at l.total l.levels) l.total None l.count l.initial.rest
