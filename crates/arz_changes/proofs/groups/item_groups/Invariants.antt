use Rattle.std.proofs.Common.{◌≡◌, ◌<◌, ℕ, [], length, get_or, take}
use Rattle.arz_json.specs.declared.place.Token.TheVariants.{Index}
use Rattle.arz_changes.specs.Removal.{below}
use Rattle.arz_changes.specs.Groups.{groups_seen, ways_seen}
use Rattle.arz_changes.proofs.groups.item_groups.Given as goal

abbrev pub invariant-loop-way : goal.invariant-loop-way
invariant-loop-way l = record {
  len : length l.groups.items ≡ l.count;
  groups : (k : ℕ) → k < l.count → get_or (groups_seen l.groups.items) k [] ≡ below (Index k) (ways_seen (take l.way-index l.ways));
}
