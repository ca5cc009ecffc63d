use Rattle.std.proofs.Common.{◌≡◌, ◌++◌, length}
use Rattle.arz_path.specs.Tree.{children}
use Rattle.arz_path.specs.Spots.{down_all}
use Rattle.arz_path.specs.Seen.{place_in, rows, end_of, left_of, coming}
use Rattle.arz_path.proofs.walk.Walk.advance.Given as goal

abbrev pub decreases-levels : goal.decreases-levels
decreases-levels l = length l.self.path.items

-- what is left is the same
abbrev pub invariant-levels : goal.invariant-levels
invariant-levels l =
    let p = place_in l.fn.self.start in
    (down_all (end_of p (rows p l.self.path.items)) (coming l.children) ++ left_of p (rows p l.self.path.items)
    ≡ down_all (end_of p (rows p l.fn.self.path.items)) (children l.fn.self.value.now) ++ left_of p (rows p l.fn.self.path.items))
    × (l.self.start ≡ l.fn.self.start)
