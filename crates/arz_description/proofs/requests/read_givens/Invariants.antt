use Rattle.std.proofs.Common.{◌≡◌, map, take}
use Rattle.arz_components.specs.Indexes.{finds}
use Rattle.arz_description.specs.Requests.{given_of}
use Rattle.arz_description.proofs.requests.read_givens.Given as goal

abbrev pub invariant-loop-item : goal.invariant-loop-item
invariant-loop-item l = l.givens.items ≡ map (given_of (finds l.components)) (take l.item-index l.items)
