use Rattle.std.proofs.Common.{◌≡◌, ◌++◌, drop, map}
use Rattle.std.specs.Option.{option_copied}
use Rattle.arz_bundle.specs.Overlays.{seen, items_for}
use Rattle.arz_bundle.proofs.overlays.overlays_for.Given as goal

-- what was listed, and what is left, make the whole
abbrev pub invariant-loop-index : goal.invariant-loop-index
invariant-loop-index l = map seen l.overlays.items ++ items_for (option_copied l.whose) l.index (drop l.index l.items) ≡ items_for (option_copied l.whose) 0 l.items
