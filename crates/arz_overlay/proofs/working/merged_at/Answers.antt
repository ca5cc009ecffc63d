use Rattle.std.proofs.Common.{◌∙◌, sym}
use Rattle.std.proofs.lemmas.Bool.{ltb-false}
use Rattle.arz_overlay.specs.Depths.{reach}
use Rattle.arz_overlay.proofs.Depths.{deepened}
use Rattle.arz_overlay.proofs.working.merged_at.Goals as goal

pub is_over-requires-clause-nests : goal.is_over-requires-clause-nests
is_over-requires-clause-nests c = λ shallow reaches.
    deepened c.args.update.now c.args.place.now c.args.work.tree c.in_ok-tree.tree 127 c.in_ok-tree.ensures.gives (c.requires.keeps.nests shallow)
    (ltb-false 127 (reach c.args.update.now c.args.place.now c.args.work.tree) (sym c.reaches_too_deep-reaches.ensures ∙ reaches))
