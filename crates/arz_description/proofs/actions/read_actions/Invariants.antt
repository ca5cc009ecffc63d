use Rattle.std.proofs.Common.{◌≡◌, take}
use Rattle.arz_components.specs.Indexes.{finds}
use Rattle.arz_description.specs.Parts.{actions_of}
use Rattle.arz_description.proofs.actions.read_actions.Given as goal

abbrev pub invariant-loop-item : goal.invariant-loop-item
invariant-loop-item l = l.actions.items ≡ actions_of (finds l.components) l.part (take l.item-index l.items)
