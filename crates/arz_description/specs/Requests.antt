-- What a step gives to its request: parameters and a body.
use Rattle.std.specs.Prelude.{ℕ, ◌&&◌, not, Bool, List, ◌++◌, map, filter, codes, Option, Some, None, option_map, option_and_then, unwrap_or, IfSome, if◌then◌else◌}
use Rattle.std.specs.List.{list_any}
use Rattle.std.specs.Str.{bytes_eq}
use Rattle.arz_json.specs.Look.{member_in, text_at, items_at}
use Rattle.arz_json.specs.Tree.{IsWellFormed}
use Rattle.arz_json.specs.declared.tree.Json.{Json}
use Rattle.arz_json.specs.declared.tree.Json.TheVariants.{Null}
use Rattle.arz_json.specs.declared.tree.Location.{Location}
use Rattle.arz_json.specs.declared.tree.Location.TheVariants.{Path, Query, Header, Cookie}
use Rattle.arz_expr.specs.declared.template.Given.{Given}
use Rattle.arz_expr.specs.declared.template.Replacement.{Replacement}
use Rattle.arz_expr.specs.declared.template.Body.{Body}
use Rattle.arz_operation.specs.Named.{is_same}
use Rattle.arz_components.specs.Described.{Components}
use Rattle.arz_components.specs.Texts.{text_named}
use Rattle.arz_components.specs.declared.components.Part.{Part}
use Rattle.arz_components.specs.declared.components.Part.TheVariants.{Parameters}
use Rattle.arz_description.specs.Parts.{meant}

-- a value, null where none is written
abbrev pub value_in : Json → Json
value_in j = unwrap_or (member_in (codes "value") j) Null

-- ---- a parameter (Arazzo 1.0.1, section 4.6.6), in the query where no other place is written

abbrev pub place_by : List ℕ → Location
place_by word =
    if bytes_eq word (codes "path") then Path else (if bytes_eq word (codes "header") then Header else (if bytes_eq word (codes "cookie") then Cookie else Query))

abbrev pub place_in : Option (List ℕ) → Location
place_in None = Query
place_in (Some word) = place_by word

abbrev pub place_of : Json → Location
place_of j = place_in (text_named (codes "in") j)

-- the value of a reusable object comes before that of its component (section 4.6.10)
abbrev pub value_by : (component item : Json) → Json
value_by component item = unwrap_or (member_in (codes "value") item) (value_in component)

abbrev pub given_by : (component item : Json) → Given
given_by component item = record {
  name = text_at (codes "name") component;
  place = place_of component;
  value = value_by component item;
}

abbrev pub given_of : Components → Json → Given
given_of find item = given_by (meant find Parameters item) item

-- the parameters that a step or a workflow lists
abbrev pub givens_of : Components → Json → List Given
givens_of find j = map (given_of find) (items_at (codes "parameters") j)

-- two parameters with one name and one place
abbrev pub is_same_parameter : Given → Given → Bool
is_same_parameter g h = is_same g.place h.place && bytes_eq g.name h.name

-- those of a step, and then those of its workflow that the step doesn't give itself (section 4.6.4.1)
abbrev pub joined_givens : (own others : List Given) → List Given
joined_givens own others = own ++ filter (λ g. not (list_any (is_same_parameter g) own)) others

-- ---- a request body (section 4.6.13); one without a payload is none

-- a payload replacement (section 4.6.14)
abbrev pub replacement_of : Json → Replacement
replacement_of j = record {
  target = text_at (codes "target") j;
  value = value_in j;
}

abbrev pub body_with : Json → (payload : Json) → Body
body_with j payload = record {
  kind = text_named (codes "contentType") j;
  payload = payload;
  replacements = map replacement_of (items_at (codes "replacements") j);
}

abbrev pub body_in : Json → Option Body
body_in j = option_map (body_with j) (member_in (codes "payload") j)

abbrev pub body_of : (step : Json) → Option Body
body_of step = option_and_then body_in (member_in (codes "requestBody") step)

-- ---- for private clauses: each component is well-formed

abbrev pub AreWellFormed : Components → Type 0
AreWellFormed find = (part : Part) (name : List ℕ) → IfSome (find part name) IsWellFormed
