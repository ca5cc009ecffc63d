use Rattle.std.proofs.Common.{◌≡◌, map, take}
use Rattle.arz_description.specs.Parts.{criterion_of}
use Rattle.arz_description.proofs.actions.read_criteria.Given as goal

abbrev pub invariant-loop-item : goal.invariant-loop-item
invariant-loop-item l = l.criteria.items ≡ map criterion_of (take l.item-index l.items)
