use Rattle.std.proofs.Common.{◌≡◌, ◌++◌, drop, map, length}
use Rattle.arz_path.specs.Tree.{item_child}
use Rattle.arz_path.specs.Seen.{branch_of, taken_from}
use Rattle.arz_path.proofs.pick.add_taken.Given as goal

abbrev pub invariant-loop-i : goal.invariant-loop-i
invariant-loop-i l =
    map branch_of l.out.items ++ map item_child (taken_from l.slice (length l.items) l.i (drop l.i l.items))
    ≡ map branch_of l.fn.out.items ++ map item_child (taken_from l.slice (length l.items) 0 l.items)
