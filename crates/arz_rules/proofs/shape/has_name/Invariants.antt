use Rattle.std.proofs.Common.{◌≡◌, drop}
use Rattle.arz_rules.specs.Misses.{named_misses, has_name}
use Rattle.arz_rules.proofs.shape.has_name.Given as goal

abbrev pub invariant-loop-member : goal.invariant-loop-member
invariant-loop-member l = has_name (named_misses l.member-items) l.name ≡ has_name (named_misses (drop l.member-index l.member-items)) l.name
