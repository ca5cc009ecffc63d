-- Components, and the reusable objects that stand for them (Arazzo 1.0.1, sections 4.6.9 and 4.6.10).
use Rattle.std.specs.Prelude.{ℕ, List, codes, Bool, Option, Some, option_and_then, if◌then◌else◌}
use Rattle.std.specs.Option.{is_some}
use Rattle.arz_json.specs.declared.tree.Json.{Json}
use Rattle.arz_json.specs.Look.{member_in, members_at}
use Rattle.arz_json.specs.Pointer.{member_named}
use Rattle.arz_components.specs.Texts.{text_named, referred}
use Rattle.arz_components.specs.declared.components.Part.{Part}
use Rattle.arz_components.specs.declared.components.Part.TheVariants.{Inputs, Parameters, SuccessActions, FailureActions}

-- the name of a part of the components (section 4.6.9)
abbrev pub part_name : Part → List ℕ
part_name Inputs = codes "inputs"
part_name Parameters = codes "parameters"
part_name SuccessActions = codes "successActions"
part_name FailureActions = codes "failureActions"

-- the component with this name
abbrev pub component_in : Part → List ℕ → Json → Option Json
component_in part name j = member_named (members_at (part_name part) j) name

abbrev pub component : Json → Part → List ℕ → Option Json
component root part name = option_and_then (component_in part name) (member_in (codes "components") root)

-- the components of a description, by part and name
abbrev pub Components : Type 0
Components = Part → List ℕ → Option Json

-- a reusable object: an item that has a `reference` (section 4.6.10)
abbrev pub is_reuse : Json → Bool
is_reuse j = is_some (member_in (codes "reference") j)

-- the name to which a reusable object of this part refers
abbrev pub reused_name : Part → Json → Option (List ℕ)
reused_name part j = option_and_then (referred (part_name part)) (text_named (codes "reference") j)

-- the item itself, or the component that stands in its place, if there is one
abbrev pub actual : Components → Part → Json → Option Json
actual find part j = if is_reuse j then option_and_then (find part) (reused_name part j) else Some j
