use Rattle.std.proofs.Common.{◌≡◌, ◌+◌, ◌∷◌, Ok, map, drop, sym, ap, ◌∙◌, arith, rules}
use Rattle.std.proofs.lemmas.Grind.{common_steps}
use Rattle.std.proofs.lemmas.Result.{err_from_is_err_and}
use Rattle.arz_json.specs.Tree.{has_form}
use Rattle.arz_json.specs.declared.tree.Json.{Json, the_lemmas}
use Rattle.arz_json.specs.declared.tree.Json.TheVariants.{Object}
use Rattle.arz_json.specs.declared.tree.Member.{Member}
use Rattle.arz_json.proofs.Layers.{members_form}
use Rattle.arz_expr.specs.Filling.{mapped, all_of, filled_member, with_values}
use Rattle.arz_json.proofs.Answer.{fails}
use Rattle.arz_expr.specs.Cuts.{told}
use Rattle.arz_expr.proofs.Levels.{goes-on, member_of, with_values-object, object-form}
use Rattle.arz_expr.proofs.filling.+fill.Goals as goal

pub fill_tree-fill_members-requires : goal.fill_tree-fill_members-requires
fill_tree-fill_members-requires g t c =
    λ κs le. (search (rules, the_lemmas), (search rules, members_form c.in-Object.members (sym (ap has_form c.in-Object.is) ∙ c.requires)))

pub fill_tree-returns-in_err-fill_members-in-Object-clause-gives : goal.fill_tree-returns-in_err-fill_members-in-Object-clause-gives
fill_tree-returns-in_err-fill_members-in-Object-clause-gives g t c =
    let found = g.S.Scope.found c.args.scope.now in
    let residual = c.from_residual-in_err-fill_members-in-Object in
    let failed = c.in_err-fill_members-in-Object in
    let p = err_from_is_err_and residual.result residual.ensures.1 in
    rw (p.1, p.2) (fails (told failed.field-0.0) (all_of (map (member_of found) c.in-Object.members)) (with_values found c.args.tree.now)
    (λ f e. ap (with_values found) c.in-Object.is ∙ with_values-object found c.in-Object.members ∙ ap (mapped Object) e) failed.ensures.gives)

pub fill_tree-returns-in_ok-fill_members-in-Object-clause-gives : goal.fill_tree-returns-in_ok-fill_members-in-Object-clause-gives
fill_tree-returns-in_ok-fill_members-in-Object-clause-gives g t c =
    let found = g.S.Scope.found c.args.scope.now in
    ap (with_values found) c.in-Object.is ∙ with_values-object found c.in-Object.members ∙ ap (mapped Object) c.in_ok-fill_members-in-Object.ensures.gives

pub fill_tree-returns-in_ok-fill_members-in-Object-clause-form : goal.fill_tree-returns-in_ok-fill_members-in-Object-clause-form
fill_tree-returns-in_ok-fill_members-in-Object-clause-form g t c =
    let filled = c.in_ok-fill_members-in-Object in
    object-form (g.S.Scope.found c.args.scope.now) c.in-Object.members filled.field-0 (sym (ap has_form c.in-Object.is) ∙ c.requires) filled.ensures.gives filled.ensures.form

pub fill_items-loop-item-preserved : goal.fill_items-loop-item-preserved
fill_items-loop-item-preserved g t c =
    let l = c.loop-item in
    let items = c.as_slice-item-items.result.now in
    let x : Json = c.item-item.result in
    let cut : drop l.item-index items ≡ x ∷ drop (l.item-index + 1) items = grind (arith, common_steps) in
    goes-on (with_values (g.S.Scope.found c.args.scope.now)) has_form has_form items l.item-index l.filled.items c.push.new.self.items x c.in_ok-fill_tree.field-0 cut
    c.in_ok-fill_tree.ensures.gives c.in_ok-fill_tree.ensures.form c.in_ok-push.ensures.items l.invariant

pub fill_members-loop-member-preserved : goal.fill_members-loop-member-preserved
fill_members-loop-member-preserved g t c =
    let l = c.loop-member in
    let items = c.as_slice-member-items.result.now in
    let m : Member = c.member-item.result in
    let found = g.S.Scope.found c.args.scope.now in
    let filled : Member = record { name = c.in_ok-name.name; value = c.in_ok-value.value } in
    let cut : drop l.member-index items ≡ m ∷ drop (l.member-index + 1) items = grind (arith, common_steps) in
    goes-on (member_of found) (λ m. has_form m.value) (λ m. has_form m.value) items l.member-index l.filled.items c.push.new.self.items m filled cut
    (ap (λ r. filled_member (m.name, r)) c.in_ok-value.ensures.gives ∙ ap (λ n. filled_member (n, Ok c.in_ok-value.value)) (sym c.in_ok-name.ensures))
    c.in_ok-value.ensures.form c.in_ok-push.ensures.items l.invariant
