use Rattle.std.proofs.Common.{◌≡◌, ◌||◌, map, drop}
use Rattle.std.specs.List.{list_all}
use Rattle.arz_rules.specs.Sets.{has}
use Rattle.arz_sources.proofs.given.are_given.Given as goal

abbrev pub invariant-loop-name : goal.invariant-loop-name
invariant-loop-name l =
    list_all (λ q. has l.own q || has l.others q) (map (λ t. t.now) l.names)
    ≡ list_all (λ q. has l.own q || has l.others q) (map (λ t. t.now) (drop l.name-index l.names))
