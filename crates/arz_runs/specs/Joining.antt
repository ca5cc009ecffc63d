-- ---- for private clauses: parameters that are given, joined
use Rattle.std.specs.Prelude.{ℕ, ◌&&◌, not, Bool, List, [], filter, Option, Some, None}
use Rattle.std.specs.List.{list_any}
use Rattle.std.specs.Str.{bytes_eq}
use Rattle.arz_json.specs.declared.tree.Json.{Json}
use Rattle.arz_json.specs.declared.tree.Location.{Location}
use Rattle.arz_expr.specs.declared.template.Given.{Given}
use Rattle.arz_components.specs.Described.{Components}
use Rattle.arz_operation.specs.Named.{is_same}
use Rattle.arz_description.specs.Requests.{givens_of, is_same_parameter, joined_givens}

-- those that an object lists, where there is one
abbrev pub givens_if : Components → Option Json → List Given
givens_if find None = []
givens_if find (Some j) = givens_of find j

abbrev pub joined_of : Components → (workflow : Option Json) → (step : Json) → List Given
joined_of find workflow step = joined_givens (givens_of find step) (givens_if find workflow)

-- whether one of them has this place and name
abbrev pub is_at : Location → List ℕ → Given → Bool
is_at place name g = is_same g.place place && bytes_eq g.name name

abbrev pub has_at : List Given → Location → List ℕ → Bool
has_at givens place name = list_any (is_at place name) givens

-- the others whose place and name none of these has
abbrev pub others_than : (own others : List Given) → List Given
others_than own others = filter (λ g. not (list_any (is_same_parameter g) own)) others
