use Rattle.std.proofs.Common.{[], ◌∷◌, ◌++◌, codes}
use Rattle.arz_rules.specs.Sites.{member, at, at_each, before}
use Rattle.arz_rules.specs.Sets.{bad_text}
use Rattle.arz_sites.specs.Sites.{only, workflows, steps, parameters_of, success_items, failure_items}
use Rattle.arz_components.specs.Indexes.{finds}
use Rattle.arz_names.specs.Names.{is_input, lost_use}
use Rattle.arz_components.specs.declared.components.Part.TheVariants.{Parameters, SuccessActions, FailureActions}
use Rattle.arz_sites.proofs.Parts.{joined, on_sites}
use Rattle.arz_names.proofs.references.first_lost_component.Goals as goal

pub returns : goal.returns
returns c =
    let find = finds c.args.components.now in
    let root = c.args.root.now in
    let of_parameters = (workflows ++ parameters_of) ∷ (steps ++ parameters_of) ∷ [] in
    let inputs = at (workflows ++ member (codes "inputs") ∷ only (codes "$ref")) (bad_text (is_input find)) root in
    let successes = at_each (before workflows success_items) (lost_use find SuccessActions) root in
    let failures = at_each (before workflows failure_items) (lost_use find FailureActions) root in
    joined (inputs ++ successes ++ failures) (at_each of_parameters (lost_use find Parameters) root) _ _ _ c.lesser.ensures
    (joined (inputs ++ successes) failures _ _ _ c.lesser-actions.ensures
    (joined inputs successes _ _ _ c.lesser-first.ensures c.in_ok-inputs.ensures
    (on_sites (lost_use find SuccessActions) root (before workflows success_items) _ _ c.success_items.ensures c.in_ok-successes.ensures))
    (on_sites (lost_use find FailureActions) root (before workflows failure_items) _ _ c.failure_items.ensures c.in_ok-failures.ensures))
    (on_sites (lost_use find Parameters) root of_parameters _ _ c.parameters.ensures c.in_ok-givens.ensures)
