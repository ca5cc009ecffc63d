use Rattle.std.proofs.Common.{◌≡◌, ◌++◌, ◌+◌, ◌*◌, drop, map, length}
use Rattle.arz_rules.specs.Sites.{seen_way, found, all_items, all_members}
use Rattle.arz_criteria.specs.Taken.{patterns_among, texts_of}
use Rattle.arz_criteria.proofs.patterns.+patterns.Given as goal

abbrev pub decreases-put_patterns : goal.decreases-put_patterns
decreases-put_patterns l = 2 * length l.ways.now

abbrev pub decreases-put_from_items : goal.decreases-put_from_items
decreases-put_from_items l = 2 * length l.rest.now + 1

abbrev pub decreases-put_from_members : goal.decreases-put_from_members
decreases-put_from_members l = 2 * length l.rest.now + 1

abbrev pub invariant-put_from_items-loop-item : goal.invariant-put_from_items-loop-item
invariant-put_from_items-loop-item l =
    texts_of l.found.items ++ patterns_among (all_items (found (map seen_way l.rest)) (drop l.item-index l.items))
    ≡ texts_of l.initial.found.items ++ patterns_among (all_items (found (map seen_way l.rest)) l.items)

abbrev pub invariant-put_from_members-loop-member : goal.invariant-put_from_members-loop-member
invariant-put_from_members-loop-member l =
    texts_of l.found.items ++ patterns_among (all_members (found (map seen_way l.rest)) (drop l.member-index l.members))
    ≡ texts_of l.initial.found.items ++ patterns_among (all_members (found (map seen_way l.rest)) l.members)
