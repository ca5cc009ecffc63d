use Rattle.std.proofs.Common.{◌≡◌, map, take}
use Rattle.arz_components.specs.Indexes.{finds}
use Rattle.arz_description.specs.Described.{workflow_of}
use Rattle.arz_description.proofs.steps.read_workflows.Given as goal

abbrev pub invariant-loop-item : goal.invariant-loop-item
invariant-loop-item l = l.workflows.items ≡ map (workflow_of (finds l.components)) (take l.item-index l.items)
