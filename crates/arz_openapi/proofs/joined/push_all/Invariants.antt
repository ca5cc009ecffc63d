use Rattle.std.proofs.Common.{◌≡◌, ◌++◌}
use Rattle.std.specs.Vec.Iter.{into_iter_items}
use Rattle.arz_openapi.proofs.joined.push_all.Given as goal

abbrev pub invariant-loop-described : goal.invariant-loop-described
invariant-loop-described l =
    (goal.iterator-loop-described).can_next l.described-iterator ×
    (goal.iterator-loop-described).is_finite l.described-iterator ×
    (l.out.items ++ into_iter_items l.described-iterator ≡ l.initial.out.items ++ l.fn.more.items)
