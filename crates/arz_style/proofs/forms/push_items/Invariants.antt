use Rattle.std.proofs.Common.{◌≡◌, drop}
use Rattle.arz_style.specs.Forms.{item_fields}
use Rattle.arz_style.proofs.Fronts.{front}
use Rattle.arz_style.proofs.forms.push_items.Given as goal

abbrev pub invariant-loop-item : goal.invariant-loop-item
invariant-loop-item l = front l.initial.pairs.items (item_fields l.name l.items) ≡ front l.pairs.items (item_fields l.name (drop l.item-index l.items))
