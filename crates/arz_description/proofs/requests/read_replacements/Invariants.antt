use Rattle.std.proofs.Common.{◌≡◌, map, take}
use Rattle.arz_description.specs.Requests.{replacement_of}
use Rattle.arz_description.proofs.requests.read_replacements.Given as goal

abbrev pub invariant-loop-item : goal.invariant-loop-item
invariant-loop-item l = l.replacements.items ≡ map replacement_of (take l.item-index l.items)
