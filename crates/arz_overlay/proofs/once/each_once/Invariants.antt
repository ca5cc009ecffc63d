use Rattle.std.proofs.Common.{◌≡◌, ◌++◌, List, ℕ, take, drop}
use Rattle.arz_changes.specs.Groups.{places_seen}
use Rattle.arz_overlay.specs.Applied.{has_key}
use Rattle.arz_changes.specs.Groups.{ways_seen}
use Rattle.arz_overlay.specs.Steps.{each_once, once_after}
use Rattle.arz_overlay.proofs.PlacesOnce.{keyed}
use Rattle.arz_overlay.proofs.once.each_once.Given as goal

abbrev pub invariant-loop-at : goal.invariant-loop-at
invariant-loop-at l = record {
  kept : ways_seen l.ways.items ++ once_after (places_seen (take l.at l.places)) (places_seen (drop l.at l.places)) ≡ each_once (places_seen l.places);
  seen : (q : List ℕ) → has_key l.seen q ≡ keyed (places_seen (take l.at l.places)) q;
}
