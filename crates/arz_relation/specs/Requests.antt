-- The inputs of a run that a step makes (Arazzo 1.0.1, 4.6.5.1: parameters), over the raw documents.
use Rattle.std.specs.Prelude.{ℕ, List, [], ◌∷◌, map, Ok, Option}
use Rattle.std.specs.BTreeMap.{insert_entry}
use Rattle.std.specs.Cmp.Lexicographic.{slice_cmp}
use Rattle.std.specs.Ordering.{nat_cmp}
use Rattle.arz_json.specs.Answer.{◌>>=◌}
use Rattle.arz_json.specs.declared.Json.{Json}
use Rattle.arz_json.specs.declared.Member.{Member}
use Rattle.arz_expr.specs.declared.syntax.Base.{Base}
use Rattle.arz_expr.specs.declared.template.Given.{Given}
use Rattle.arz_request.specs.Causes.{Made, made_of, filling}
use Rattle.arz_flow.specs.declared.bundle.Bundle.{Bundle}
pub use Rattle.arz_flow.specs.Requests.{parameters_of, request_of}

abbrev pub Entry : Type 0
Entry = List ℕ × Json

-- each parameter's value, with the values of its expressions, or the first cause why there is none
abbrev pub all_filled : (Base → Option Json) → List Given → Made (List Entry)
all_filled found [] = Ok []
all_filled found (g ∷ gs) = filling found g.value >>= λ value. made_of (λ es. (g.name, value) ∷ es) (all_filled found gs)

-- put among the others, in ascending byte order of their names
abbrev pub in_order : List Entry → (others : List Entry) → List Entry
in_order [] others = others
in_order (e ∷ es) others = in_order es (insert_entry (slice_cmp nat_cmp) others e.0 e.1)

abbrev pub member_of : Entry → Member
member_of e = record { name = e.0; value = e.1 }

-- the step's own parameters
abbrev pub inputs_of : Bundle → (Base → Option Json) → (step : Json) → Made (List Member)
inputs_of b found step = made_of (λ es. map member_of (in_order es [])) (all_filled found (parameters_of b step))
