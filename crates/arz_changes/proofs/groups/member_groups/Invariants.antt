use Rattle.std.proofs.Common.{◌≡◌, ◌<◌, ℕ, [], length, get_or, take}
use Rattle.arz_json.specs.declared.place.Token.TheVariants.{Name}
use Rattle.arz_json.specs.declared.tree.Member.{Member}
use Rattle.arz_changes.specs.Removal.{below}
use Rattle.arz_changes.specs.Groups.{groups_seen, ways_seen}
use Rattle.arz_changes.proofs.groups.member_groups.Given as goal

abbrev pub invariant-loop-way : goal.invariant-loop-way
invariant-loop-way l = record {
  len : length l.groups.items ≡ length l.members;
  groups : (k : ℕ) (d : Member) → k < length l.members → get_or (groups_seen l.groups.items) k [] ≡ below (Name (get_or l.members k d).name) (ways_seen (take l.way-index l.ways));
}
