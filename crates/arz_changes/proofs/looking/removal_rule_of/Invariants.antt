use Rattle.std.proofs.Common.{◌≡◌, drop}
use Rattle.arz_changes.specs.Actions.{removal_rule}
use Rattle.arz_changes.specs.Groups.{ways_seen}
use Rattle.arz_changes.proofs.looking.removal_rule_of.Given as goal

abbrev pub invariant-loop-way : goal.invariant-loop-way
invariant-loop-way l = removal_rule (ways_seen l.ways) l.tree ≡ removal_rule (ways_seen (drop l.way-index l.ways)) l.tree
