use Rattle.std.proofs.Common.{◌≡◌, ◌++◌, drop, map}
use Rattle.std.specs.List.{flat_map}
use Rattle.arz_rules.specs.Sites.{seen_site}
use Rattle.arz_criteria.specs.Rules.{patterns_at, patterns_in}
use Rattle.arz_criteria.specs.Taken.{texts_of}
use Rattle.arz_criteria.proofs.patterns.patterns_at_sites.Given as goal

abbrev pub invariant-loop-ways : goal.invariant-loop-ways
invariant-loop-ways l = texts_of l.found.items ++ flat_map (λ site. patterns_at site l.root) (map seen_site (drop l.ways-index l.ways-items)) ≡ patterns_in l.root
