use Rattle.std.proofs.Common.{◌≡◌, ◌≤◌, ◌++◌, drop, map, length}
use Rattle.std.specs.Prelude.{filter}
use Rattle.arz_path.specs.Tree.{members_of, member_child}
use Rattle.arz_path.specs.Selected.{widest, is_name}
use Rattle.arz_path.specs.Spots.{within, spots_below}
use Rattle.arz_path.specs.Seen.{seen, way}
use Rattle.arz_path.proofs.push.add_named.Given as goal

abbrev pub invariant-loop-member : goal.invariant-loop-member
invariant-loop-member l =
    (within (map seen l.fn.out.items ++ spots_below (way l.fn.walk).0 (filter (λ c. is_name l.name c.0) (map member_child (members_of (way l.fn.walk).0.1))))
    ≡ within (map seen l.out.items ++ spots_below (way l.fn.walk).0 (filter (λ c. is_name l.name c.0) (map member_child (drop l.member-index l.member-items)))))
    × (length l.out.items ≤ widest)
    × (way l.walk ≡ way l.fn.walk)
