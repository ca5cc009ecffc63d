use Rattle.std.proofs.Common.{◌++◌, codes}
use Rattle.arz_rules.specs.Sites.{at, at_each}
use Rattle.arz_rules.specs.Sets.{has, bad_text}
use Rattle.arz_sites.specs.Sites.{only, success_items, failure_items, unless_reuse}
use Rattle.arz_components.specs.Indexes.{finds}
use Rattle.arz_names.specs.Names.{wrong_use, goes_to}
use Rattle.arz_components.specs.declared.components.Part.TheVariants.{SuccessActions, FailureActions}
use Rattle.arz_sites.proofs.Parts.{joined, on_sites}
use Rattle.arz_names.proofs.references.first_lost_step.Goals as goal

pub returns : goal.returns
returns c =
    let find = finds c.args.components.now in
    let known = has c.args.steps.now in
    let flow = c.args.workflow.now in
    let target = unless_reuse (at (only (codes "stepId")) (bad_text known)) in
    let success = wrong_use find SuccessActions (goes_to known) in
    let failure = wrong_use find FailureActions (goes_to known) in
    joined (at_each (success_items ++ failure_items) target flow ++ at_each success_items success flow) (at_each failure_items failure flow) _ _ _ c.lesser.ensures
    (joined (at_each (success_items ++ failure_items) target flow) (at_each success_items success flow) _ _ _ c.lesser-written.ensures
    (on_sites target flow (success_items ++ failure_items) _ _ c.own_items.ensures c.in_ok-own.ensures)
    (on_sites success flow success_items _ _ c.own_success_items.ensures c.in_ok-successes.ensures))
    (on_sites failure flow failure_items _ _ c.own_failure_items.ensures c.in_ok-failures.ensures)
