use Rattle.arz_rules.specs.Sites.{at_each, before}
use Rattle.arz_sites.specs.Sites.{workflows, success_lists, failure_lists}
use Rattle.arz_components.specs.Indexes.{finds}
use Rattle.arz_names.specs.Names.{repeats}
use Rattle.arz_components.specs.declared.components.Part.TheVariants.{SuccessActions, FailureActions}
use Rattle.arz_names.specs.declared.repeats.Key.TheVariants.{Named}
use Rattle.arz_sites.proofs.Parts.{joined, on_sites}
use Rattle.arz_names.proofs.duplicates.first_action.Goals as goal

pub returns : goal.returns
returns c =
    let find = finds c.args.components.now in
    let root = c.args.root.now in
    let successes = before workflows success_lists in
    let failures = before workflows failure_lists in
    joined (at_each successes (repeats find (Named SuccessActions)) root) (at_each failures (repeats find (Named FailureActions)) root) _ _ _ c.lesser.ensures
    (on_sites (repeats find (Named SuccessActions)) root successes _ _ c.success_lists.ensures c.in_ok-successes.ensures)
    (on_sites (repeats find (Named FailureActions)) root failures _ _ c.failure_lists.ensures c.in_ok-failures.ensures)
