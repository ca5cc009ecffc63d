-- What is merged, a level at a time.
use Rattle.std.proofs.Common.{◌≡◌, List, [], ◌∷◌, ◌++◌, map, Option, None, refl, ap, ◌∙◌}
use Rattle.arz_json.specs.declared.tree.Json.{Json}
use Rattle.arz_json.specs.declared.tree.Json.TheVariants.{List as ListOf, Object}
use Rattle.arz_json.specs.declared.tree.Member.{Member}
use Rattle.arz_json.proofs.Layers.{folded-List, folded-Object}
use Rattle.arz_changes.specs.Merging.{Merge, merge_step, merged, merge_of, added_items, items_there, members_there, with_members}

values_none : (us : List Json) → map (λ (u : Merge). u None) (map merged us) ≡ added_items us
values_none [] = refl
values_none (u ∷ us) = ap (λ l. merged u None ∷ l) (values_none us)

pub merged_list : (us : List Json) (old : Option Json) → merged (ListOf us) old ≡ ListOf (items_there old ++ added_items us)
merged_list us old = ap (λ (f : Merge). f old) (folded-List Merge merge_step us) ∙ ap (λ l. ListOf (items_there old ++ l)) (values_none us)

pub merged_object : (us : List Member) (old : Option Json) → merged (Object us) old ≡ Object (with_members (map merge_of us) (members_there old))
merged_object us old = ap (λ (f : Merge). f old) (folded-Object Merge merge_step us)
