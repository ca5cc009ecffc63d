use Rattle.std.proofs.Common.{◌≡◌, ◌++◌, drop, map, true}
use Rattle.arz_json.specs.Tree.{has_form, all_true}
use Rattle.arz_expr.specs.Filling.{mapped, all_of, with_values}
use Rattle.arz_expr.proofs.Levels.{member_of}
use Rattle.arz_expr.proofs.filling.+fill.Given as goal

-- what stands there and what is left make the whole, and all of it is in form
abbrev pub invariant-fill_items-loop-item : goal.invariant-fill_items-loop-item
invariant-fill_items-loop-item g l =
    let filled = with_values (g.S.Scope.found l.scope) in
    (mapped (λ rest. l.filled.items ++ rest) (all_of (map filled (drop l.item-index l.item-items))) ≡ all_of (map filled l.item-items))
    × (all_true (map has_form (drop l.item-index l.item-items)) ≡ true)
    × (all_true (map has_form l.filled.items) ≡ true)

abbrev pub invariant-fill_members-loop-member : goal.invariant-fill_members-loop-member
invariant-fill_members-loop-member g l =
    let filled = member_of (g.S.Scope.found l.scope) in
    (mapped (λ rest. l.filled.items ++ rest) (all_of (map filled (drop l.member-index l.member-items))) ≡ all_of (map filled l.member-items))
    × (all_true (map (λ m. has_form m.value) (drop l.member-index l.member-items)) ≡ true)
    × (all_true (map (λ m. has_form m.value) l.filled.items) ≡ true)
