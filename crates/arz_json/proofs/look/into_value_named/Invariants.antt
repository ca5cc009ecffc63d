use Rattle.std.proofs.Common.{◌≡◌}
use Rattle.std.specs.Vec.Iter.{into_iter_items}
use Rattle.arz_json.specs.Pointer.{member_named}
use Rattle.arz_json.proofs.look.into_value_named.Given as goal

abbrev pub invariant-loop-member : goal.invariant-loop-member
invariant-loop-member l =
    (goal.iterator-loop-member).can_next l.member-iterator ×
    (goal.iterator-loop-member).is_finite l.member-iterator ×
    (member_named l.fn.members l.name ≡ member_named (into_iter_items l.member-iterator) l.name)
