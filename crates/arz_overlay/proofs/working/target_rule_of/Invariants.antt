use Rattle.std.proofs.Common.{◌≡◌, drop}
use Rattle.arz_overlay.specs.Steps.{target_rule}
use Rattle.arz_changes.specs.Groups.{ways_seen}
use Rattle.arz_overlay.proofs.working.target_rule_of.Given as goal

abbrev pub invariant-loop-way : goal.invariant-loop-way
invariant-loop-way l = target_rule (ways_seen l.ways) l.tree ≡ target_rule (ways_seen (drop l.way-index l.ways)) l.tree
