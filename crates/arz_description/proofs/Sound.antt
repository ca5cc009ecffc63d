-- What a well-formed description holds is well-formed: items, values of members, components.
use Rattle.std.proofs.Common.{◌≡◌, ℕ, ◌<◌, true, false, cond, List, [], length, get_or, Option, Some, None, option_and_then, unwrap_or, All, IfSome, arith, refl, sym, subst, codes}
use Rattle.std.specs.Prelude.{slice_get}
use Rattle.std.proofs.lemmas.List.Elements.{All-from_get_or}
use Rattle.std.proofs.lemmas.Option.{option_and_then_some, slice_get-get_or}
use Rattle.arz_json.specs.Tree.{IsWellFormed, max_depth}
use Rattle.arz_json.specs.Look.{list_in, object_in, member_in, items_at, members_at}
use Rattle.arz_json.specs.Pointer.{member_named}
use Rattle.arz_json.specs.declared.tree.Json.{Json}
use Rattle.arz_json.specs.declared.tree.Json.TheVariants.{List as ListOf, Object, Null}
use Rattle.arz_json.specs.declared.tree.Member.{Member}
use Rattle.arz_json.proofs.Parts.{IsWithin-item, IsWithin-member, IsWithin-member_in, IsWithin-list_in, IsWithin-object_in}
use Rattle.arz_components.specs.Described.{Components, component, component_in, part_name, is_reuse, reused_name, actual}
use Rattle.arz_components.specs.declared.components.Part.{Part}
use Rattle.arz_description.specs.Parts.{meant}
use Rattle.arz_description.specs.Requests.{AreWellFormed}

if_each : {X : Type 0} (P : X → Type 0) (o : Option X) → ((x : X) → o ≡ Some x → P x) → IfSome o P
if_each P None h = tt
if_each P (Some x) h = h x refl

pub value_sound : (name : List ℕ) (j : Json) → IsWellFormed j → IfSome (member_in name j) IsWellFormed
value_sound name j w = if_each IsWellFormed (member_in name j) (λ k e. IsWithin-member_in max_depth name j k e w)

listed : (js : List Json) → IsWellFormed (ListOf js) → All IsWellFormed js
listed js w = All-from_get_or IsWellFormed js Null (λ i h. IsWithin-item max_depth js i (get_or js i Null) (slice_get-get_or js i Null h) w)

items_or : (o : Option (List Json)) → ((js : List Json) → o ≡ Some js → All IsWellFormed js) → All IsWellFormed (unwrap_or o [])
items_or None h = All-from_get_or IsWellFormed [] Null (λ i h. absurd (omega arith))
items_or (Some js) h = h js refl

pub items_sound : (name : List ℕ) (j : Json) → IsWellFormed j → All IsWellFormed (items_at name j)
items_sound name j w =
    items_or (option_and_then list_in (member_in name j)) (λ js e.
    option_and_then_some list_in (member_in name j) js e (λ k got is.
    listed js (IsWithin-list_in max_depth k js is (IsWithin-member_in max_depth name j k got w))))

named_in : (o : Option (List Member)) (name : List ℕ) → ((ms : List Member) → o ≡ Some ms → IfSome (member_named ms name) IsWellFormed) → IfSome (member_named (unwrap_or o []) name) IsWellFormed
named_in None name h = tt
named_in (Some ms) name h = h ms refl

in_part : (part : Part) (name : List ℕ) (j : Json) → IsWellFormed j → IfSome (component_in part name j) IsWellFormed
in_part part name j w =
    named_in (option_and_then object_in (member_in (part_name part) j)) name (λ ms e.
    option_and_then_some object_in (member_in (part_name part) j) ms e (λ k got is.
    if_each IsWellFormed (member_named ms name) (λ found at.
    IsWithin-member max_depth ms name found at (IsWithin-object_in max_depth k ms is (IsWithin-member_in max_depth (part_name part) j k got w)))))

bound : (o : Option Json) (f : Json → Option Json) → IfSome o IsWellFormed → ((j : Json) → IsWellFormed j → IfSome (f j) IsWellFormed) → IfSome (option_and_then f o) IsWellFormed
bound None f w next = tt
bound (Some j) f w next = next j w

pub components_sound : (root : Json) → IsWellFormed root → AreWellFormed (component root)
components_sound root w part name =
    bound (member_in (codes "components") root) (component_in part name) (value_sound (codes "components") root w) (in_part part name)

stands : (o : Option Json) (j : Json) → IfSome o IsWellFormed → IsWellFormed j → IsWellFormed (unwrap_or o j)
stands None j f w = w
stands (Some k) j f w = f

referred : (find : Components) (part : Part) (o : Option (List ℕ)) → AreWellFormed find → IfSome (option_and_then (find part) o) IsWellFormed
referred find part None all = tt
referred find part (Some name) all = all part name

pub meant_sound : (find : Components) (part : Part) (j : Json) → AreWellFormed find → IsWellFormed j → IsWellFormed (meant find part j)
meant_sound find part j all w =
    elim (is_reuse j) as (λ b. IsWellFormed (unwrap_or (cond b (option_and_then (find part) (reused_name part j)) (Some j)) j)) [
      | true ↦ stands (option_and_then (find part) (reused_name part j)) j (referred find part (reused_name part j) all) w
      | false ↦ w
    ]

-- the value under a name, and the items under it, as calls give them
pub under : (name : List ℕ) (j k : Json) → Some k ≡ member_in name j → IsWellFormed j → IsWellFormed k
under name j k e w = IsWithin-member_in max_depth name j k (sym e) w

pub listed_under : (name : List ℕ) (j : Json) (js : List Json) → js ≡ items_at name j → IsWellFormed j → All IsWellFormed js
listed_under name j js e w = let P : List Json → Type 0 = λ xs. All IsWellFormed xs in subst P (sym e) (items_sound name j w)

pub meant_under : (find : Components) (part : Part) (j k : Json) → k ≡ meant find part j → AreWellFormed find → IsWellFormed j → IsWellFormed k
meant_under find part j k e all w = subst IsWellFormed (sym e) (meant_sound find part j all w)

pub found_sound : (find : Components) (root : Json) → ((part : Part) (q : List ℕ) → find part q ≡ component root part q) → IsWellFormed root → AreWellFormed find
found_sound find root same w part q = let P : Option Json → Type 0 = λ o. IfSome o IsWellFormed in subst P (sym (same part q)) (components_sound root w part q)
