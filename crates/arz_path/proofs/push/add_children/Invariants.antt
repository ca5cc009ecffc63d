use Rattle.std.proofs.Common.{◌≡◌, ◌≤◌, ◌++◌, map, length}
use Rattle.arz_path.specs.Tree.{children}
use Rattle.arz_path.specs.Selected.{widest}
use Rattle.arz_path.specs.Spots.{within, spots_below}
use Rattle.arz_path.specs.Seen.{seen, coming, way}
use Rattle.arz_path.proofs.push.add_children.Given as goal

abbrev pub decreases-children : goal.decreases-children
decreases-children l = length (coming l.children)

abbrev pub invariant-children : goal.invariant-children
invariant-children l =
    (within (map seen l.fn.out.items ++ spots_below (way l.fn.walk).0 (children (way l.fn.walk).0.1))
    ≡ within (map seen l.out.items ++ spots_below (way l.fn.walk).0 (coming l.children)))
    × (length l.out.items ≤ widest)
    × (way l.walk ≡ way l.fn.walk)
