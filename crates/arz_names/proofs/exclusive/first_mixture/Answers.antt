use Rattle.arz_rules.specs.Sites.{at}
use Rattle.arz_sites.specs.Sites.{each_action, steps}
use Rattle.arz_names.specs.Names.{mixed_step, mixed_action}
use Rattle.arz_sites.proofs.Parts.{joined}
use Rattle.arz_names.proofs.exclusive.first_mixture.Goals as goal

pub returns : goal.returns
returns c = joined (at steps mixed_step c.args.root.now) (each_action mixed_action c.args.root.now) _ _ _ c.lesser.ensures c.in_ok-steps.ensures c.in_ok-actions.ensures
