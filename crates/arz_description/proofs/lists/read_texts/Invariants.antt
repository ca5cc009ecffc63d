use Rattle.std.proofs.Common.{◌≡◌, map, take}
use Rattle.arz_description.specs.Parts.{text_in_item}
use Rattle.arz_description.proofs.lists.read_texts.Given as goal

abbrev pub invariant-loop-item : goal.invariant-loop-item
invariant-loop-item l = l.texts.items ≡ map text_in_item (take l.item-index l.items)
