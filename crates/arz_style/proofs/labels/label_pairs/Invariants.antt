use Rattle.std.proofs.Common.{◌≡◌, ◌++◌, map, drop}
use Rattle.arz_style.specs.Styles.{pair_text}
use Rattle.arz_style.proofs.labels.label_pairs.Given as goal

abbrev pub invariant-loop-pair : goal.invariant-loop-pair
invariant-loop-pair l = l.out.items ++ map (pair_text l.style l.name) (drop l.pair-index l.pairs) ≡ map (pair_text l.style l.name) l.pairs
