use Rattle.std.proofs.Common.{◌≡◌, ◌++◌, drop}
use Rattle.arz_changes.specs.Groups.{places_seen}
use Rattle.arz_changes.specs.Groups.{ways_seen}
use Rattle.arz_overlay.proofs.once.all_ways.Given as goal

abbrev pub invariant-loop-place : goal.invariant-loop-place
invariant-loop-place l = ways_seen l.ways.items ++ places_seen (drop l.place-index l.places) ≡ places_seen l.places
