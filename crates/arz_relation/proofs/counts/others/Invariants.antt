use Rattle.std.proofs.Common.{◌≡◌, take}
use Rattle.std.specs.Prelude.{not, filter}
use Rattle.std.specs.Str.{bytes_eq}
use Rattle.arz_relation.proofs.counts.others.Given as goal

abbrev pub invariant-loop-count : goal.invariant-loop-count
invariant-loop-count l = l.others ≡ filter (λ c. not (bytes_eq c.name l.name)) (take l.count-index l.counts)
