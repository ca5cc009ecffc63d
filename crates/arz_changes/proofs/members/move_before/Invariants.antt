use Rattle.std.proofs.Common.{◌≡◌, ◌++◌, length}
use Rattle.arz_changes.specs.Members.{before, from}
use Rattle.arz_changes.proofs.members.move_before.Given as goal

abbrev pub invariant-loop-member : goal.invariant-loop-member
invariant-loop-member l = record {
  moved : l.moved.items ++ before l.name l.members.items ≡ l.initial.moved.items ++ before l.name l.initial.members.items;
  rest : from l.name l.members.items ≡ from l.name l.initial.members.items;
}

abbrev pub decreases-loop-member : goal.decreases-loop-member
decreases-loop-member l = length l.members.items
