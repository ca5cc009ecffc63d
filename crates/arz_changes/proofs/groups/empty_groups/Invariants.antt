use Rattle.std.proofs.Common.{◌≡◌, ℕ, [], length, get_or}
use Rattle.arz_changes.specs.Groups.{groups_seen}
use Rattle.arz_changes.proofs.groups.empty_groups.Given as goal

abbrev pub invariant-loop : goal.invariant-loop
invariant-loop l = record {
  len : length l.groups.items ≡ l.counter;
  empty : (k : ℕ) → get_or (groups_seen l.groups.items) k [] ≡ [];
}
