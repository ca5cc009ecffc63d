use Rattle.std.proofs.Common.{◌≡◌, ◌++◌, map, drop}
use Rattle.arz_changes.specs.Groups.{places_seen}
use Rattle.arz_overlay.specs.Applied.{key_of}
use Rattle.arz_overlay.proofs.once.keys.Given as goal

abbrev pub invariant-loop-place : goal.invariant-loop-place
invariant-loop-place l = l.keys.items ++ map key_of (places_seen (drop l.place-index l.places)) ≡ map key_of (places_seen l.places)
