use Rattle.std.proofs.Common.{◌≡◌, true, false, map, sym, ◌∙◌, arith}
use Rattle.std.proofs.lemmas.Grind.{common_steps}
use Rattle.arz_json.specs.Tree.{has_opaque, some_true}
use Rattle.arz_json.proofs.Layers.{has_opaque_object}
use Rattle.arz_scope.proofs.output_values.any_opaque.Goals as goal

pub returns-then-holds_opaque : goal.returns-then-holds_opaque
returns-then-holds_opaque c =
    let found : true ≡ some_true (map (λ m. has_opaque m.value) c.args.members.now) = grind (arith, common_steps) in
    found ∙ sym (has_opaque_object c.args.members.now)

pub returns : goal.returns
returns c =
    let none : false ≡ some_true (map (λ m. has_opaque m.value) c.args.members.now) = grind (arith, common_steps) in
    none ∙ sym (has_opaque_object c.args.members.now)
