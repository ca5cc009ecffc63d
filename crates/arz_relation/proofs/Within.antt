-- What stands in a document nests no deeper than the document.
use Rattle.std.proofs.Common.{◌≡◌, ℕ, cond, Bool, true, false, List, [], get_or, All, Option, Some, None, option_and_then, unwrap_or, find, refl, codes}
use Rattle.std.specs.Prelude.{slice_get}
use Rattle.std.proofs.lemmas.List.Elements.{All-nil, All-from_get_or, All-map, All-weaker, All-append, All-filter}
use Rattle.std.proofs.lemmas.Option.{option_and_then_some, slice_get-get_or}
use Rattle.arz_json.specs.Look.{list_in, object_in, member_in}
use Rattle.arz_json.specs.Pointer.{member_named}
use Rattle.arz_json.specs.Tree.{IsWithin}
use Rattle.arz_json.specs.declared.Json.{Json}
use Rattle.arz_json.specs.declared.Json.TheVariants.{List as ListOf, Null}
use Rattle.arz_json.specs.declared.Member.{Member}
use Rattle.arz_json.proofs.Parts.{IsWithin-item, IsWithin-found, IsWithin-list_in, IsWithin-object_in, IsWithin-member, IsWithin-member_in}
use Rattle.arz_components.specs.Described.{component, component_in, part_name, is_reuse, reused_name}
use Rattle.arz_components.specs.declared.components.Part.{Part}
use Rattle.arz_description.specs.Parts.{meant}
use Rattle.arz_flow.specs.declared.bundle.Bundle.{Bundle}
use Rattle.arz_relation.specs.Documents.{items_at, is_workflow, workflow_named, steps_in, steps_of, part_of, listed as listed_actions, step_actions, actions_under, actions_in, actions_at}

module _ (n : ℕ) where
  listed : (name : List ℕ) (j : Json) (js : List Json) → option_and_then list_in (member_in name j) ≡ Some js → IsWithin n j → IsWithin n (ListOf js)
  listed name j js e w = option_and_then_some list_in (member_in name j) js e (λ m got items. IsWithin-list_in n m js items (IsWithin-member_in n name j m got w))

  -- an item that stands under a name
  pub item-within : (name : List ℕ) (j k : Json) (i : ℕ) → slice_get (items_at name j) i ≡ Some k → IsWithin n j → IsWithin n k
  item-within name j k i at w = by_items (option_and_then list_in (member_in name j)) refl at
    where
      by_items : (o : Option (List Json)) → option_and_then list_in (member_in name j) ≡ o → slice_get (unwrap_or o []) i ≡ Some k → IsWithin n k
      by_items None e at = absurd (cc)
      by_items (Some js) e at = IsWithin-item n js i k at (listed name j js e w)

  -- a workflow by its name
  pub workflow-within : (id : List ℕ) (j k : Json) → workflow_named id j ≡ Some k → IsWithin n j → IsWithin n k
  workflow-within id j k got w = by_items (option_and_then list_in (member_in (codes "workflows") j)) refl got
    where
      by_items : (o : Option (List Json)) → option_and_then list_in (member_in (codes "workflows") j) ≡ o → find (is_workflow id) (unwrap_or o []) ≡ Some k → IsWithin n k
      by_items None e got = absurd (cc)
      by_items (Some js) e got = IsWithin-found n _ js k got (listed (codes "workflows") j js e w)

  step-in-within : (o : Option Json) (k : Json) (i : ℕ) → slice_get (steps_in o) i ≡ Some k → ((w : Json) → o ≡ Some w → IsWithin n w) → IsWithin n k
  step-in-within None k i at h = absurd (cc)
  step-in-within (Some w) k i at h = item-within (codes "steps") w k i at (h w refl)

  -- a step of a workflow
  pub step-within : (b : Bundle) (id : List ℕ) (k : Json) (i : ℕ) → slice_get (steps_of b id) i ≡ Some k → IsWithin n b.arazzo → IsWithin n k
  step-within b id k i at w = step-in-within (workflow_named id b.arazzo) k i at (λ x got. workflow-within id b.arazzo x got w)

  -- ---- actions

  -- all items that stand under a name
  pub items-within : (name : List ℕ) (j : Json) → IsWithin n j → All (IsWithin n) (items_at name j)
  items-within name j w = All-from_get_or (IsWithin n) (items_at name j) Null (λ i lt. item-within name j (get_or (items_at name j) i Null) i (slice_get-get_or (items_at name j) i Null lt) w)

  -- a component
  component-within : (root : Json) (part : Part) (name : List ℕ) (k : Json) → component root part name ≡ Some k → IsWithin n root → IsWithin n k
  component-within root part name k got w =
      option_and_then_some (component_in part name) (member_in (codes "components") root) k got (λ j found named.
      by_members j (option_and_then object_in (member_in (part_name part) j)) refl named (IsWithin-member_in n (codes "components") root j found w))
    where
      by_members : (j : Json) (o : Option (List Member)) → option_and_then object_in (member_in (part_name part) j) ≡ o → member_named (unwrap_or o []) name ≡ Some k → IsWithin n j → IsWithin n k
      by_members j None e named v = absurd (cc)
      by_members j (Some ms) e named v =
          option_and_then_some object_in (member_in (part_name part) j) ms e (λ l found opened.
          IsWithin-member n ms name k named (IsWithin-object_in n l ms opened (IsWithin-member_in n (part_name part) j l found v)))

  -- what an item stands for: itself, or a component
  pub meant-within : (root : Json) (part : Part) (item : Json) → IsWithin n root → IsWithin n item → IsWithin n (meant (component root) part item)
  meant-within root part item w own = by_test (is_reuse item)
    where
      by_component : (o : Option Json) → option_and_then (component root part) (reused_name part item) ≡ o → IsWithin n (unwrap_or o item)
      by_component None e = own
      by_component (Some k) e = option_and_then_some (component root part) (reused_name part item) k e (λ name named got. component-within root part name k got w)

      by_test : (reuse : Bool) → IsWithin n (unwrap_or (cond reuse (option_and_then (component root part) (reused_name part item)) (Some item)) item)
      by_test true = by_component (option_and_then (component root part) (reused_name part item)) refl
      by_test false = own

  listed-within : (b : Bundle) (ok : Bool) (items : List Json) → IsWithin n b.arazzo → All (IsWithin n) items → All (IsWithin n) (listed_actions b ok items)
  listed-within b ok items w all =
      All-map (IsWithin n) (meant (component b.arazzo) (part_of ok)) items
      (All-weaker (IsWithin n) (λ item. IsWithin n (meant (component b.arazzo) (part_of ok) item)) (λ item own. meant-within b.arazzo (part_of ok) item w own) items all)

  -- the actions of a step
  pub step_actions-within : (b : Bundle) (ok : Bool) (step : Json) → IsWithin n b.arazzo → IsWithin n step → All (IsWithin n) (step_actions b ok step)
  step_actions-within b true step w own = listed-within b true (items_at (codes "onSuccess") step) w (items-within (codes "onSuccess") step own)
  step_actions-within b false step w own = listed-within b false (items_at (codes "onFailure") step) w (items-within (codes "onFailure") step own)

  -- those of a workflow
  actions_under-within : (b : Bundle) (ok : Bool) (workflow : Json) → IsWithin n b.arazzo → IsWithin n workflow → All (IsWithin n) (actions_under b ok workflow)
  actions_under-within b true workflow w own = listed-within b true (items_at (codes "successActions") workflow) w (items-within (codes "successActions") workflow own)
  actions_under-within b false workflow w own = listed-within b false (items_at (codes "failureActions") workflow) w (items-within (codes "failureActions") workflow own)

  pub actions_in-within : (b : Bundle) (ok : Bool) (o : Option Json) → IsWithin n b.arazzo → ((workflow : Json) → o ≡ Some workflow → IsWithin n workflow) → All (IsWithin n) (actions_in b ok o)
  actions_in-within b ok None w own = All-nil (IsWithin n)
  actions_in-within b ok (Some workflow) w own = actions_under-within b ok workflow w (own workflow refl)

  -- those of a workflow by its name
  pub workflow_actions-within : (b : Bundle) (ok : Bool) (id : List ℕ) → IsWithin n b.arazzo → All (IsWithin n) (actions_in b ok (workflow_named id b.arazzo))
  workflow_actions-within b ok id w = actions_in-within b ok (workflow_named id b.arazzo) w (λ workflow got. workflow-within id b.arazzo workflow got w)

  -- and those that may follow an attempt of a step
  pub actions_at-within : (b : Bundle) (id : List ℕ) (step : Json) (ok : Bool) → IsWithin n b.arazzo → IsWithin n step → All (IsWithin n) (actions_at b id step ok)
  actions_at-within b id step ok w own = All-append (IsWithin n) (step_actions b ok step) _ (step_actions-within b ok step w own) (All-filter _ (IsWithin n) (actions_in b ok (workflow_named id b.arazzo)) (workflow_actions-within b ok id w))
