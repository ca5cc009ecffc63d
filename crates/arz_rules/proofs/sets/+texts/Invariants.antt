use Rattle.std.proofs.Common.{◌≡◌, ◌||◌, ◌+◌, ◌*◌, ℕ, List, drop, map, length}
use Rattle.arz_json.specs.Look.{text_in}
use Rattle.arz_rules.specs.Sites.{seen_way, found, all_items, all_members}
use Rattle.arz_rules.specs.Sets.{is_among, has}
use Rattle.arz_rules.proofs.sets.+texts.Given as goal

abbrev pub decreases-put_texts : goal.decreases-put_texts
decreases-put_texts l = 2 * length l.ways.now

abbrev pub decreases-put_from_items : goal.decreases-put_from_items
decreases-put_from_items l = 2 * length l.rest.now + 1

abbrev pub decreases-put_from_members : goal.decreases-put_from_members
decreases-put_from_members l = 2 * length l.rest.now + 1

abbrev pub invariant-put_from_items-loop-item : goal.invariant-put_from_items-loop-item
invariant-put_from_items-loop-item l = (q : List ℕ) →
    (is_among (map text_in (all_items (found (map seen_way l.rest)) (drop l.item-index l.items))) q || has l.set q)
    ≡ (is_among (map text_in (all_items (found (map seen_way l.rest)) l.items)) q || has l.initial.set q)

abbrev pub invariant-put_from_members-loop-member : goal.invariant-put_from_members-loop-member
invariant-put_from_members-loop-member l = (q : List ℕ) →
    (is_among (map text_in (all_members (found (map seen_way l.rest)) (drop l.member-index l.members))) q || has l.set q)
    ≡ (is_among (map text_in (all_members (found (map seen_way l.rest)) l.members)) q || has l.initial.set q)
