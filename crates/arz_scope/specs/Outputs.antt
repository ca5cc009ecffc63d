-- The outputs of a step and of a workflow (Arazzo 1.0.1, 4.6.4.1 and 4.6.5.1).
use Rattle.std.specs.Prelude.{ℕ, List, [], ◌∷◌, Option, Some, None, option_and_then, codes}
use Rattle.arz_json.specs.Look.{text_in}
use Rattle.arz_json.specs.declared.Json.{Json}
use Rattle.arz_json.specs.declared.Member.{Member}
use Rattle.arz_expr.specs.Reading.{reading}
use Rattle.arz_expr.specs.Values.{value_in}
use Rattle.arz_expr.specs.declared.syntax.Base.{Base}
use Rattle.arz_json.specs.Look.{members_at}

module _ (found : Base → Option Json) where
  -- the value of the expression that a tree spells
  abbrev pub output_value : Json → Option Json
  output_value written = option_and_then (value_in found) (option_and_then reading (text_in written))

  abbrev pub with_output : List ℕ → Option Json → List Member → List Member
  with_output name None outputs = outputs
  with_output name (Some value) outputs = record { name = name; value = value } ∷ outputs

  -- in order; what is absent is left out
  abbrev pub outputs_in : List Member → List Member
  outputs_in [] = []
  outputs_in (m ∷ ms) = with_output m.name (output_value m.value) (outputs_in ms)

  -- the outputs that a step or a workflow lists
  abbrev pub outputs_of : Json → List Member
  outputs_of listed = outputs_in (members_at (codes "outputs") listed)
