-- What stands in a document nests no deeper than the document.
use Rattle.std.proofs.Common.{◌≡◌, ℕ, List, [], Option, Some, None, option_and_then, find, refl, codes}
use Rattle.std.specs.Prelude.{slice_get, unwrap_or}
use Rattle.std.specs.Str.{bytes_eq}
use Rattle.std.proofs.lemmas.Option.{option_and_then_some}
use Rattle.arz_json.specs.Look.{list_in, member_in}
use Rattle.arz_json.specs.Tree.{IsWithin}
use Rattle.arz_json.specs.declared.Json.{Json}
use Rattle.arz_json.specs.declared.Json.TheVariants.{List as ListOf}
use Rattle.arz_json.proofs.Parts.{IsWithin-item, IsWithin-found, IsWithin-list_in, IsWithin-member_in}
use Rattle.arz_flow.specs.declared.bundle.Bundle.{Bundle}
use Rattle.arz_flow.specs.Documents.{text_at, items_at, workflow_named, steps_in, steps_of}

module _ (n : ℕ) where
  listed : (name : List ℕ) (j : Json) (js : List Json) → option_and_then list_in (member_in name j) ≡ Some js → IsWithin n j → IsWithin n (ListOf js)
  listed name j js e w = option_and_then_some list_in (member_in name j) js e (λ m got items. IsWithin-list_in n m js items (IsWithin-member_in n name j m got w))

  -- an item that stands under a name
  pub item-within : (name : List ℕ) (j k : Json) (i : ℕ) → slice_get (items_at name j) i ≡ Some k → IsWithin n j → IsWithin n k
  item-within name j k i at w = by_items (option_and_then list_in (member_in name j)) refl at
    where
      by_items : (o : Option (List Json)) → option_and_then list_in (member_in name j) ≡ o → slice_get (unwrap_or o []) i ≡ Some k → IsWithin n k
      by_items None e at = absurd (cc)
      by_items (Some js) e at = IsWithin-item n js i k at (listed name j js e w)

  -- a workflow by its name
  pub workflow-within : (id : List ℕ) (j k : Json) → workflow_named id j ≡ Some k → IsWithin n j → IsWithin n k
  workflow-within id j k got w = by_items (option_and_then list_in (member_in (codes "workflows") j)) refl got
    where
      by_items : (o : Option (List Json)) → option_and_then list_in (member_in (codes "workflows") j) ≡ o → find (λ w. bytes_eq (text_at (codes "workflowId") w) id) (unwrap_or o []) ≡ Some k → IsWithin n k
      by_items None e got = absurd (cc)
      by_items (Some js) e got = IsWithin-found n _ js k got (listed (codes "workflows") j js e w)

  step-in-within : (o : Option Json) (k : Json) (i : ℕ) → slice_get (steps_in o) i ≡ Some k → ((w : Json) → o ≡ Some w → IsWithin n w) → IsWithin n k
  step-in-within None k i at h = absurd (cc)
  step-in-within (Some w) k i at h = item-within (codes "steps") w k i at (h w refl)

  -- a step of a workflow
  pub step-within : (b : Bundle) (id : List ℕ) (k : Json) (i : ℕ) → slice_get (steps_of b id) i ≡ Some k → IsWithin n b.arazzo → IsWithin n k
  step-within b id k i at w = step-in-within (workflow_named id b.arazzo) k i at (λ x got. workflow-within id b.arazzo x got w)
