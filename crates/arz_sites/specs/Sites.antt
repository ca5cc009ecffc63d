-- Where the parts of a description stand (Arazzo 1.0.1, section 4.6).
use Rattle.std.specs.Prelude.{ℕ, List, [], ◌∷◌, ◌++◌, codes, Bool, if◌then◌else◌}
use Rattle.std.specs.Option.{is_some}
use Rattle.arz_json.specs.declared.tree.Json.{Json}
use Rattle.arz_json.specs.Look.{member_in}
use Rattle.arz_rules.specs.Sites.{Step, member, each_item, each_member, Check, at, at_each, after, before}
use Rattle.arz_components.specs.Described.{part_name, is_reuse}
use Rattle.arz_components.specs.declared.components.Part.{Part}
use Rattle.arz_components.specs.declared.components.Part.TheVariants.{Parameters, SuccessActions, FailureActions}

-- ---- sites

-- the member with this name, and the items of the list that it is
abbrev pub only : List ℕ → List Step
only name = member name ∷ []

abbrev pub items_of : List ℕ → List Step
items_of name = member name ∷ each_item ∷ []

abbrev pub sources : List Step
sources = items_of (codes "sourceDescriptions")

abbrev pub workflows : List Step
workflows = items_of (codes "workflows")

-- the steps of a workflow, and those of all workflows
abbrev pub own_steps : List Step
own_steps = items_of (codes "steps")

abbrev pub steps : List Step
steps = workflows ++ own_steps

-- ---- components

-- each component of a part (Arazzo 1.0.1, section 4.6.9)
abbrev pub each_component : Part → List Step
each_component part = member (codes "components") ∷ member (part_name part) ∷ each_member ∷ []

-- ---- checks

-- a check of items that passes over reusable objects
abbrev pub unless_reuse : Check → Check
unless_reuse check j = if is_reuse j then [] else check j

-- a step that runs a workflow (Arazzo 1.0.1, section 4.6.5)
abbrev pub runs_workflow : Json → Bool
runs_workflow j = is_some (member_in (codes "workflowId") j)

-- ---- actions, criteria and parameters, each wherever it is written

-- the lists of actions of a workflow, by the part of the components to which their items may refer
abbrev pub success_lists : List (List Step)
success_lists = only (codes "successActions") ∷ (own_steps ++ only (codes "onSuccess")) ∷ []

abbrev pub failure_lists : List (List Step)
failure_lists = only (codes "failureActions") ∷ (own_steps ++ only (codes "onFailure")) ∷ []

-- their items
abbrev pub success_items : List (List Step)
success_items = after (each_item ∷ []) success_lists

abbrev pub failure_items : List (List Step)
failure_items = after (each_item ∷ []) failure_lists

abbrev pub listed_actions : List (List Step)
listed_actions = before workflows (success_items ++ failure_items)

abbrev pub shared_actions : List (List Step)
shared_actions = each_component SuccessActions ∷ each_component FailureActions ∷ []

-- at each action, in lists and among the components
abbrev pub each_action : Check → Check
each_action check root = at_each listed_actions (unless_reuse check) root ++ at_each shared_actions check root

abbrev pub criteria_of : List Step
criteria_of = items_of (codes "criteria")

-- at each criterion, of steps and of actions
abbrev pub each_criterion : Check → Check
each_criterion check root = at (steps ++ items_of (codes "successCriteria")) check root ++ each_action (at criteria_of check) root

-- the lists whose parameters go into requests; those of a step that runs a workflow go into its inputs
abbrev pub parameters_of : List Step
parameters_of = items_of (codes "parameters")

-- the values that a description gives: of parameters and of reusable objects that stand for them, payloads, and
-- what replaces parts of payloads
abbrev pub values : List (List Step)
values = after (member (codes "value") ∷ [])
    ((workflows ++ parameters_of) ∷ (steps ++ parameters_of) ∷ each_component Parameters ∷ (steps ++ member (codes "requestBody") ∷ items_of (codes "replacements")) ∷ [])
    ++ (steps ++ member (codes "requestBody") ∷ member (codes "payload") ∷ []) ∷ []
