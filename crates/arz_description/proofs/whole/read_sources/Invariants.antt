use Rattle.std.proofs.Common.{◌≡◌, map, take}
use Rattle.arz_description.specs.Parts.{source_of}
use Rattle.arz_description.proofs.whole.read_sources.Given as goal

abbrev pub invariant-loop-item : goal.invariant-loop-item
invariant-loop-item l = l.sources.items ≡ map source_of (take l.item-index l.items)
