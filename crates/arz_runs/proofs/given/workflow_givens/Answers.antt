use Rattle.std.proofs.Common.{codes, subst, IfSome}
use Rattle.std.specs.Option.{option_copied}
use Rattle.arz_json.specs.Tree.{IsWellFormed}
use Rattle.arz_description.proofs.Sound.{listed_under}
use Rattle.arz_runs.proofs.given.workflow_givens.Goals as goal

pub read_givens-requires-clause-items : goal.read_givens-requires-clause-items
read_givens-requires-clause-items c =
    listed_under (codes "parameters") c.in-Some.workflow.now c.items_at.result.now c.items_at.ensures
    (subst (λ o. IfSome (option_copied o) IsWellFormed) c.in-Some.is c.requires.workflow)
