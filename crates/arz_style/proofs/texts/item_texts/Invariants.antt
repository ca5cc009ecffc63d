use Rattle.std.proofs.Common.{◌≡◌, drop}
use Rattle.arz_style.specs.Texts.{texts_of}
use Rattle.arz_style.proofs.Fronts.{front}
use Rattle.arz_style.proofs.texts.item_texts.Given as goal

abbrev pub invariant-loop-item : goal.invariant-loop-item
invariant-loop-item l = texts_of l.escape l.items ≡ front l.texts.items (texts_of l.escape (drop l.item-index l.items))
