-- What a description says (Arazzo 1.0.1, section 4.6), by its components.
use Rattle.std.specs.Prelude.{ℕ, List, [], map, codes, Option, Some, None, option_and_then}
use Rattle.arz_json.specs.Look.{member_in, text_at, items_at, members_at}
use Rattle.arz_json.specs.declared.tree.Json.{Json}
use Rattle.arz_components.specs.Described.{Components, component}
use Rattle.arz_components.specs.Texts.{text_named, input_name}
use Rattle.arz_components.specs.declared.components.Part.TheVariants.{Inputs, SuccessActions, FailureActions}
use Rattle.arz_description.specs.Calls.{call_of}
use Rattle.arz_description.specs.Parts.{text_in_item, source_of, criterion_of, actions_of, outputs_of}
use Rattle.arz_description.specs.Requests.{given_of, body_of}
use Rattle.arz_description.specs.declared.parts.Step.{Step}
use Rattle.arz_description.specs.declared.parts.Workflow.{Workflow}
use Rattle.arz_description.specs.declared.parts.Description.{Description}

-- a step (section 4.6.5)
abbrev pub step_of : Components → Json → Step
step_of find j = record {
  id = text_at (codes "stepId") j;
  call = call_of j;
  parameters = map (given_of find) (items_at (codes "parameters") j);
  body = body_of j;
  criteria = map criterion_of (items_at (codes "successCriteria") j);
  on_success = actions_of find SuccessActions (items_at (codes "onSuccess") j);
  on_failure = actions_of find FailureActions (items_at (codes "onFailure") j);
  outputs = outputs_of (members_at (codes "outputs") j);
}

-- ---- the inputs that a workflow requires

-- the schema of the inputs: the component that its `$ref` names, where it has one
abbrev pub inputs_by : Components → Json → Option (List ℕ) → Option Json
inputs_by find j None = Some j
inputs_by find j (Some reference) = option_and_then (find Inputs) (input_name reference)

abbrev pub inputs_in : Components → Json → Option Json
inputs_in find j = inputs_by find j (text_named (codes "$ref") j)

abbrev pub required_in : Option Json → List (List ℕ)
required_in None = []
required_in (Some inputs) = map text_in_item (items_at (codes "required") inputs)

abbrev pub required_of : Components → (workflow : Json) → List (List ℕ)
required_of find workflow = required_in (option_and_then (inputs_in find) (member_in (codes "inputs") workflow))

-- a workflow (section 4.6.4)
abbrev pub workflow_of : Components → Json → Workflow
workflow_of find j = record {
  id = text_at (codes "workflowId") j;
  depends = map text_in_item (items_at (codes "dependsOn") j);
  required = required_of find j;
  parameters = map (given_of find) (items_at (codes "parameters") j);
  steps = map (step_of find) (items_at (codes "steps") j);
  on_success = actions_of find SuccessActions (items_at (codes "successActions") j);
  on_failure = actions_of find FailureActions (items_at (codes "failureActions") j);
  outputs = outputs_of (members_at (codes "outputs") j);
}

-- a description (section 4.6.1)
abbrev pub description_with : Components → Json → Description
description_with find root = record {
  sources = map source_of (items_at (codes "sourceDescriptions") root);
  workflows = map (workflow_of find) (items_at (codes "workflows") root);
}

unfoldable pub description_of : Json → Description
description_of root = description_with (component root) root
