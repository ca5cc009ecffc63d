use Rattle.std.proofs.Common.{◌≡◌, ◌++◌, drop}
use Rattle.std.specs.List.{flat_map}
use Rattle.arz_style.specs.Styles.{parts_of}
use Rattle.arz_style.proofs.labels.parts.Given as goal

abbrev pub invariant-loop-pair : goal.invariant-loop-pair
invariant-loop-pair l = l.out.items ++ flat_map parts_of (drop l.pair-index l.pairs) ≡ flat_map parts_of l.pairs
