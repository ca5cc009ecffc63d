use Rattle.std.proofs.Common.{◌≡◌, ◌+◌, ◌*◌, drop, map, length}
use Rattle.arz_rules.specs.Place.{least, lesser, tokens_in}
use Rattle.arz_rules.specs.Sites.{seen_way, at as at_site, in_items, in_members}
use Rattle.arz_rules.proofs.sites.+site.Given as goal

abbrev pub decreases-first_at : goal.decreases-first_at
decreases-first_at g l = 2 * length l.ways.now

abbrev pub decreases-first_in_items : goal.decreases-first_in_items
decreases-first_in_items g l = 2 * length l.rest.now + 1

abbrev pub decreases-first_in_members : goal.decreases-first_in_members
decreases-first_in_members g l = 2 * length l.rest.now + 1

abbrev pub invariant-first_in_items-loop-i : goal.invariant-first_in_items-loop-i
invariant-first_in_items-loop-i g l =
    let check = at_site (map seen_way l.rest) (g.C.Check.places l.check) in
    least (in_items check 0 l.items) ≡ lesser (tokens_in l.best) (least (in_items check l.i (drop l.i l.items)))

abbrev pub invariant-first_in_members-loop-member : goal.invariant-first_in_members-loop-member
invariant-first_in_members-loop-member g l =
    let check = at_site (map seen_way l.rest) (g.C.Check.places l.check) in
    least (in_members check l.members) ≡ lesser (tokens_in l.best) (least (in_members check (drop l.member-index l.members)))
