use Rattle.std.proofs.Common.{◌≡◌, ◌++◌, map, drop}
use Rattle.arz_style.specs.Styles.{labelled}
use Rattle.arz_style.proofs.labels.label_each.Given as goal

abbrev pub invariant-loop-text : goal.invariant-loop-text
invariant-loop-text l = l.out.items ++ map (labelled l.style l.name) (drop l.text-index l.texts) ≡ map (labelled l.style l.name) l.texts
