-- The parts of a description, each as its object writes it. A text that isn't there is empty, but where a default is
-- said.
use Rattle.std.specs.Prelude.{ℕ, ◌^◌, ℤ, pos, negsuc, List, [], map, codes, nat_lt, Option, Some, None, option_map, option_and_then, unwrap_or, if◌then◌else◌}
use Rattle.std.specs.List.{filter_map}
use Rattle.std.specs.Str.{bytes_eq}
use Rattle.arz_json.specs.Look.{text_in, int_in, member_in, text_at, items_at}
use Rattle.arz_json.specs.declared.tree.Json.{Json}
use Rattle.arz_json.specs.declared.tree.Member.{Member}
use Rattle.arz_expr.specs.Reading.{reading}
use Rattle.arz_expr.specs.declared.syntax.Expr.{Expr}
use Rattle.arz_components.specs.Described.{Components, actual}
use Rattle.arz_components.specs.Texts.{text_named}
use Rattle.arz_components.specs.declared.components.Part.{Part}
use Rattle.arz_description.specs.declared.parts.Source.{Source}
use Rattle.arz_description.specs.declared.parts.Criterion.{Criterion}
use Rattle.arz_description.specs.declared.parts.First.{First}
use Rattle.arz_description.specs.declared.parts.First.TheVariants as first
use Rattle.arz_description.specs.declared.parts.Act.{Act}
use Rattle.arz_description.specs.declared.parts.Act.TheVariants.{End, GoStep, GoFlow, Retry}
use Rattle.arz_description.specs.declared.parts.Action.{Action}
use Rattle.arz_description.specs.declared.parts.Output.{Output}

abbrev pub text_or : (other name : List ℕ) → Json → List ℕ
text_or other name j = unwrap_or (text_named name j) other

-- an item of a list of texts
abbrev pub text_in_item : Json → List ℕ
text_in_item j = unwrap_or (text_in j) []

-- ---- a source description (Arazzo 1.0.1, section 4.6.3), of type `openapi` where none is written

abbrev pub source_of : Json → Source
source_of j = record {
  name = text_at (codes "name") j;
  url = text_at (codes "url") j;
  kind = text_or (codes "openapi") (codes "type") j;
}

-- ---- a criterion (section 4.6.11), of type `simple` where none is written

abbrev pub criterion_of : Json → Criterion
criterion_of j = record {
  kind = text_or (codes "simple") (codes "type") j;
  condition = text_at (codes "condition") j;
  context = text_named (codes "context") j;
}

-- ---- a success action or a failure action (sections 4.6.7 and 4.6.8)

-- a number of 32 bits; where none is written, the other
abbrev pub count_or : ℕ → Option ℤ → ℕ
count_or other (Some (pos n)) = if nat_lt n 4294967296 then n else other
count_or other (Some (negsuc n)) = other
count_or other None = other

abbrev pub number_or : (other : ℕ) → (name : List ℕ) → Json → ℕ
number_or other name j = count_or other (option_and_then int_in (member_in name j))

-- the step or the workflow that goes before a step is tried again
abbrev pub first_by : (step flow : Option (List ℕ)) → First
first_by (Some id) flow = first.Step id
first_by None (Some id) = first.Flow id
first_by None None = first.Nothing

abbrev pub first_of : Json → First
first_of j = first_by (text_named (codes "stepId") j) (text_named (codes "workflowId") j)

-- where a `goto` goes; one without a target ends the workflow
abbrev pub go_by : (step flow : Option (List ℕ)) → Act
go_by (Some id) flow = GoStep id
go_by None (Some id) = GoFlow id
go_by None None = End

abbrev pub go_of : Json → Act
go_of j = go_by (text_named (codes "stepId") j) (text_named (codes "workflowId") j)

-- a `retry` comes after 0 seconds, and once, where nothing else is written
abbrev pub retry_of : Json → Act
retry_of j = Retry (number_or 0 (codes "retryAfter") j) (number_or 1 (codes "retryLimit") j) (first_of j)

abbrev pub act_by : (kind : List ℕ) → Json → Act
act_by kind j = if bytes_eq kind (codes "goto") then go_of j else (if bytes_eq kind (codes "retry") then retry_of j else End)

abbrev pub act_of : Json → Act
act_of j = act_by (text_at (codes "type") j) j

abbrev pub action_of : Json → Action
action_of j = record {
  name = text_at (codes "name") j;
  act = act_of j;
  criteria = map criterion_of (items_at (codes "criteria") j);
}

-- ---- reusable objects (section 4.6.10)

-- the component to which an item refers; the item itself, where it refers to none
abbrev pub meant : Components → Part → Json → Json
meant find part item = unwrap_or (actual find part item) item

abbrev pub actions_of : Components → Part → List Json → List Action
actions_of find part items = map (λ item. action_of (meant find part item)) items

-- ---- outputs, each with an expression (section 4.7); what is none is left out

abbrev pub expression_in : Json → Option Expr
expression_in j = option_and_then reading (text_in j)

abbrev pub output_by : List ℕ → Expr → Output
output_by name e = record { name = name; value = e }

abbrev pub output_of : Member → Option Output
output_of m = option_map (output_by m.name) (expression_in m.value)

abbrev pub outputs_of : List Member → List Output
outputs_of members = filter_map output_of members
