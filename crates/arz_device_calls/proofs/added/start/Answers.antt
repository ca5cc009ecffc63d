use Rattle.std.proofs.Common.{◌∙◌}
use Rattle.arz_device_calls.proofs.Spelt.{of_start}
use Rattle.arz_device_calls.proofs.added.start.Goals as goal

pub returns-clause-spells : goal.returns-clause-spells
returns-clause-spells c = of_start c.in_ok-tree.tree c.into_std-rest.result.items c.in_ok-tree.ensures.well_formed c.in_ok-write.ensures.texts (c.into_std-rest.ensures ∙ c.in_ok-write.ensures.spelt)
