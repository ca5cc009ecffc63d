use Rattle.std.proofs.Common.{◌≡◌, map, take}
use Rattle.arz_components.specs.Indexes.{finds}
use Rattle.arz_description.specs.Described.{step_of}
use Rattle.arz_description.proofs.steps.read_steps.Given as goal

abbrev pub invariant-loop-item : goal.invariant-loop-item
invariant-loop-item l = l.steps.items ≡ map (step_of (finds l.components)) (take l.item-index l.items)
