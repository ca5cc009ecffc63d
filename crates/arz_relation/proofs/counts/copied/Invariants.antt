use Rattle.std.proofs.Common.{◌≡◌, take}
use Rattle.arz_relation.proofs.counts.copied.Given as goal

abbrev pub invariant-loop-count : goal.invariant-loop-count
invariant-loop-count l = l.copies ≡ take l.count-index l.counts
