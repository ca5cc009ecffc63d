use Rattle.std.proofs.Common.{◌≡◌, drop, map}
use Rattle.arz_rules.specs.Place.{least, lesser, tokens_in}
use Rattle.arz_rules.specs.Sites.{seen_site, at_each}
use Rattle.arz_rules.proofs.sites.first_at_each.Given as goal

abbrev pub invariant-loop-ways : goal.invariant-loop-ways
invariant-loop-ways g l =
    least (at_each (map seen_site l.sites) (g.C.Check.places l.check) l.tree)
    ≡ lesser (tokens_in l.best) (least (at_each (map seen_site (drop l.ways-index l.sites)) (g.C.Check.places l.check) l.tree))
