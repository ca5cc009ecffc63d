-- What the workflows, steps and actions of a raw description name (Arazzo 1.0.1, 4.6.4 to 4.6.8). What it doesn't have is
-- empty here; no description that passed its rules lacks it.
use Rattle.std.specs.Prelude.{ℕ, suc, max, List, [], ◌∷◌, ◌++◌, map, filter, length, codes, not, Bool, true, false, if◌then◌else◌, Option, Some, None}
use Rattle.std.specs.List.{flat_map, list_any}
use Rattle.std.specs.Str.{bytes_eq}
pub use Rattle.arz_flow.specs.Documents.{text_at, items_at, members_at, workflow_named, steps_in, steps_of, criteria_of}
use Rattle.arz_json.specs.declared.Json.{Json}
use Rattle.arz_components.specs.Described.{component}
use Rattle.arz_components.specs.declared.components.Part.{Part}
use Rattle.arz_components.specs.declared.components.Part.TheVariants.{SuccessActions, FailureActions}
use Rattle.arz_description.specs.Parts.{text_in_item, meant}
use Rattle.arz_flow.specs.declared.bundle.Bundle.{Bundle}

abbrev pub workflows_in : (description : Json) → List Json
workflows_in description = items_at (codes "workflows") description

abbrev pub is_workflow : List ℕ → Json → Bool
is_workflow id w = bytes_eq (text_at (codes "workflowId") w) id

abbrev pub steps_under : (workflow : Json) → List Json
steps_under workflow = items_at (codes "steps") workflow

abbrev pub step_id : (step : Json) → List ℕ
step_id step = text_at (codes "stepId") step

-- the index of the first step with this stepId; where there is none, that behind the last
abbrev pub index_of : List ℕ → List Json → ℕ
index_of id [] = 0
index_of id (step ∷ steps) = if bytes_eq (step_id step) id then 0 else suc (index_of id steps)

-- the workflows that must be completed before (4.6.4.1: dependsOn)
abbrev pub depends_under : (workflow : Json) → List (List ℕ)
depends_under workflow = map text_in_item (items_at (codes "dependsOn") workflow)

abbrev pub depends_in : Option Json → List (List ℕ)
depends_in None = []
depends_in (Some workflow) = depends_under workflow

abbrev pub depends_of : Bundle → List ℕ → List (List ℕ)
depends_of b workflow = depends_in (workflow_named workflow b.arazzo)

-- the length of the longest list of dependencies
abbrev pub longest : (workflows : List Json) → ℕ
longest [] = 0
longest (w ∷ ws) = max (length (depends_under w)) (longest ws)

-- ---- actions, with components in the place of the reusable objects that refer to them (4.6.7, 4.6.8, 4.6.10)

abbrev pub part_of : Bool → Part
part_of true = SuccessActions
part_of false = FailureActions

abbrev pub listed : Bundle → Bool → List Json → List Json
listed b ok items = map (meant (component b.arazzo) (part_of ok)) items

-- the actions of a step after its success, or after its failure (4.6.5.1: onSuccess, onFailure)
abbrev pub step_actions : Bundle → Bool → (step : Json) → List Json
step_actions b true step = listed b true (items_at (codes "onSuccess") step)
step_actions b false step = listed b false (items_at (codes "onFailure") step)

-- those of a workflow (4.6.4.1: successActions, failureActions)
abbrev pub actions_under : Bundle → Bool → (workflow : Json) → List Json
actions_under b true workflow = listed b true (items_at (codes "successActions") workflow)
actions_under b false workflow = listed b false (items_at (codes "failureActions") workflow)

abbrev pub actions_in : Bundle → Bool → Option Json → List Json
actions_in b ok None = []
actions_in b ok (Some workflow) = actions_under b ok workflow

abbrev pub action_name : (action : Json) → List ℕ
action_name action = text_at (codes "name") action

abbrev pub is_same_action : Json → Json → Bool
is_same_action a o = bytes_eq (action_name o) (action_name a)

-- those of the step, and then those of its workflow whose names aren't among them
abbrev pub joined_actions : (own others : List Json) → List Json
joined_actions own others = own ++ filter (λ a. not (list_any (is_same_action a) own)) others

abbrev pub actions_at : Bundle → (workflow : List ℕ) → (step : Json) → Bool → List Json
actions_at b workflow step ok = joined_actions (step_actions b ok step) (actions_in b ok (workflow_named workflow b.arazzo))

-- the criteria of an action, in order (4.6.7.1, 4.6.8.1: criteria)
abbrev pub criteria_in : (action : Json) → List Json
criteria_in action = items_at (codes "criteria") action

-- ---- every criterion that an execution may try

abbrev pub criteria_of_actions : List Json → List Json
criteria_of_actions actions = flat_map criteria_in actions

abbrev pub criteria_of_step : Bundle → (step : Json) → List Json
criteria_of_step b step = criteria_of step ++ (criteria_of_actions (step_actions b true step) ++ criteria_of_actions (step_actions b false step))

abbrev pub criteria_of_workflow : Bundle → (workflow : Json) → List Json
criteria_of_workflow b w = flat_map (criteria_of_step b) (steps_under w) ++ (criteria_of_actions (actions_under b true w) ++ criteria_of_actions (actions_under b false w))

abbrev pub all_criteria : Bundle → List Json
all_criteria b = flat_map (criteria_of_workflow b) (workflows_in b.arazzo)
