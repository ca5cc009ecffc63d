use Rattle.std.proofs.Common.{◌≡◌, ◌≤◌, ◌++◌, drop, map, length}
use Rattle.arz_path.specs.Selected.{widest}
use Rattle.arz_path.specs.Spots.{within, spots_below}
use Rattle.arz_path.specs.Seen.{seen, branch_of, way}
use Rattle.arz_path.proofs.push.add_all.Given as goal

abbrev pub invariant-loop-child : goal.invariant-loop-child
invariant-loop-child l =
    (within (map seen l.fn.out.items ++ spots_below (way l.fn.walk).0 (map branch_of l.children))
    ≡ within (map seen l.out.items ++ spots_below (way l.fn.walk).0 (map branch_of (drop l.child-index l.children))))
    × (length l.out.items ≤ widest)
    × (way l.walk ≡ way l.fn.walk)
