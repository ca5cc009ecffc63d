use Rattle.std.proofs.Common.{◌≡◌, drop}
use Rattle.arz_changes.specs.Removal.{has_end}
use Rattle.arz_changes.specs.Groups.{ways_seen}
use Rattle.arz_changes.proofs.groups.has_end.Given as goal

abbrev pub invariant-loop-way : goal.invariant-loop-way
invariant-loop-way l = has_end (ways_seen l.ways) ≡ has_end (ways_seen (drop l.way-index l.ways))
