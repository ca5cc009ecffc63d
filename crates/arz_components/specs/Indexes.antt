-- ---- for private clauses: components in maps
use Rattle.std.specs.Prelude.{ℕ, List, Option, option_map}
use Rattle.std.specs.Cmp.Lexicographic.{slice_cmp}
use Rattle.std.specs.Ordering.{nat_cmp}
use Rattle.std.specs.BTreeMap.{BTreeMap, get_by}
use denote.Ref.{Bor}
use Rattle.arz_json.specs.declared.tree.Json.{Json}
use Rattle.arz_components.specs.declared.components.Components.{Components}
use Rattle.arz_components.specs.declared.components.Part.{Part}
use Rattle.arz_components.specs.declared.components.Part.TheVariants.{Inputs, Parameters, SuccessActions, FailureActions}

abbrev pub found_in : BTreeMap (Bor (List ℕ)) (Bor Json) → List ℕ → Option Json
found_in m q = option_map (λ j. j.now) (get_by (λ k. slice_cmp nat_cmp q k.now) m)

abbrev pub map_of : Components → Part → BTreeMap (Bor (List ℕ)) (Bor Json)
map_of c Inputs = c.inputs
map_of c Parameters = c.parameters
map_of c SuccessActions = c.success_actions
map_of c FailureActions = c.failure_actions

abbrev pub finds : Components → Part → List ℕ → Option Json
finds c part q = found_in (map_of c part) q
