-- The rules of names in a description (Arazzo 1.0.1, section 4.6), each as the places that fail it.
use Rattle.std.specs.Prelude.{ℕ, List, [], ◌∷◌, ◌++◌, ◌+◌, codes, ◌&&◌, ◌||◌, ◌==◌, Bool, true, not, nat_le, Option, Some, None, option_and_then, if◌then◌else◌}
use Rattle.std.specs.Option.{is_some}
use Rattle.arz_json.specs.declared.tree.Json.{Json}
use Rattle.arz_json.specs.declared.place.Token.{Token}
use Rattle.arz_json.specs.declared.place.Token.TheVariants.{Name}
use Rattle.arz_json.specs.Look.{member_in}
use Rattle.arz_rules.specs.Place.{under, here_unless}
use Rattle.arz_rules.specs.Sites.{Step, member, Check, at, at_each, text_named, items, before}
use Rattle.arz_rules.specs.Sets.{is_text, is_among, texts_at, bad_text, bad_names, repeats as repeated}
use Rattle.arz_rules.specs.Texts.{is_name}
use Rattle.arz_sites.specs.Texts.{source_and_id, source_and_pointer}
use Rattle.arz_components.specs.Texts.{input_name}
use Rattle.arz_components.specs.Described.{Components, is_reuse, reused_name, actual}
use Rattle.arz_sites.specs.Sites.{only, items_of, sources, workflows, own_steps, steps, unless_reuse, runs_workflow, success_lists, failure_lists, success_items, failure_items, each_action, parameters_of}
use Rattle.arz_components.specs.declared.components.Part.{Part}
use Rattle.arz_components.specs.declared.components.Part.TheVariants.{Inputs, Parameters, SuccessActions, FailureActions}
use Rattle.arz_json.specs.declared.tree.Location.{Location}
use Rattle.arz_json.specs.declared.tree.Location.TheVariants.{Path, Query, Header, Cookie}
use Rattle.arz_sites.specs.declared.checks.Wanted.{Wanted}
use Rattle.arz_names.specs.declared.repeats.Key.{Key}
use Rattle.arz_sites.specs.Wants.{fits, unless_flow, names, named}

-- ---- the version isn't one of Arazzo 1.0

abbrev pub bad_version : Check
bad_version root = at (member (codes "arazzo") ∷ []) (bad_text (fits Wanted.Version)) root

abbrev pub wrong_names : Check
wrong_names root = at_each names (bad_text is_name) root ++ at_each named (bad_names is_name) root

-- ---- a source's name, a workflowId, a stepId of a workflow, an action's name in a list, or a parameter of a
-- list stands a second time; reusable objects stand for their components

-- the text by which an item is told from the others of its list: that of a member; the name of the action or of the
-- parameter that it is or refers to; the name of such a parameter in this place
abbrev pub place_word : Location → List ℕ
place_word Path = codes "path"
place_word Query = codes "query"
place_word Header = codes "header"
place_word Cookie = codes "cookie"

abbrev pub name_if_in : List ℕ → Json → Option (List ℕ)
name_if_in place j = if is_text (text_named (codes "in") j) place then text_named (codes "name") j else None

abbrev pub key_of : Components → Key → Json → Option (List ℕ)
key_of find Key.Name j = text_named (codes "name") j
key_of find Key.WorkflowId j = text_named (codes "workflowId") j
key_of find Key.StepId j = text_named (codes "stepId") j
key_of find (Key.Named part) j = option_and_then (text_named (codes "name")) (actual find part j)
key_of find (Key.NamedIn place) j = option_and_then (name_if_in (place_word place)) (actual find Parameters j)

-- the member of the item that is told
abbrev pub used_name : Json → List ℕ
used_name j = if is_reuse j then codes "reference" else codes "name"

abbrev pub told_member : Key → Json → List ℕ
told_member Key.Name j = codes "name"
told_member Key.WorkflowId j = codes "workflowId"
told_member Key.StepId j = codes "stepId"
told_member (Key.Named part) j = used_name j
told_member (Key.NamedIn place) j = used_name j

-- the items of a list that have the key of an earlier item
abbrev pub repeats : Components → Key → Check
repeats find key = repeated (key_of find key) (told_member key)

-- parameters are told apart by their name and place
abbrev pub repeated_parameters : Components → Check
repeated_parameters find j = repeats find (Key.NamedIn Path) j ++ repeats find (Key.NamedIn Query) j ++ repeats find (Key.NamedIn Header) j ++ repeats find (Key.NamedIn Cookie) j

-- those of a step that runs a workflow by their name alone
abbrev pub repeated_in_step : Components → Check
repeated_in_step find j =
    if runs_workflow j then at (only (codes "parameters")) (repeats find (Key.Named Parameters)) j
    else at (only (codes "parameters")) (repeated_parameters find) j

abbrev pub repeated_names : Components → Check
repeated_names find root =
    at (only (codes "sourceDescriptions")) (repeats find Key.Name) root
    ++ at (only (codes "workflows")) (repeats find Key.WorkflowId) root
    ++ at (workflows ++ only (codes "steps")) (repeats find Key.StepId) root

abbrev pub repeated_actions : Components → Check
repeated_actions find root =
    at_each (before workflows success_lists) (repeats find (Key.Named SuccessActions)) root
    ++ at_each (before workflows failure_lists) (repeats find (Key.Named FailureActions)) root

abbrev pub repeated_givens : Components → Check
repeated_givens find root =
    at (workflows ++ only (codes "parameters")) (repeated_parameters find) root
    ++ at steps (repeated_in_step find) root

abbrev pub duplicates : Components → Check
duplicates find root = repeated_names find root ++ repeated_actions find root ++ repeated_givens find root

-- ---- members that exclude each other

abbrev pub count_there : Option Json → ℕ
count_there None = 0
count_there (Some j) = 1

-- how many of these members are there
abbrev pub count_of : List (List ℕ) → Json → ℕ
count_of [] j = 0
count_of (name ∷ names) j = count_there (member_in name j) + count_of names j

abbrev pub is_type : List ℕ → Json → Bool
is_type word j = is_text (text_named (codes "type") j) word

abbrev pub targets : Json → ℕ
targets j = count_of (codes "stepId" ∷ codes "workflowId" ∷ []) j

-- a step calls one operation or runs one workflow
abbrev pub mixed_step : Check
mixed_step j = here_unless (count_of (codes "operationId" ∷ codes "operationPath" ∷ codes "workflowId" ∷ []) j == 1)

-- a `goto` has one target, a `retry` at most one, an `end` none
abbrev pub has_targets : Json → Bool
has_targets j =
    (not (is_type (codes "goto") j) || (targets j == 1))
    && (not (is_type (codes "retry") j) || nat_le (targets j) 1)
    && (not (is_type (codes "end") j) || (targets j == 0))

abbrev pub mixed_action : Check
mixed_action j = here_unless (has_targets j)

abbrev pub mixtures : Check
mixtures root = at steps mixed_step root ++ each_action mixed_action root

-- ---- what is named isn't there

-- a check of reusable objects of this part, by the component to which they refer
abbrev pub wrong_use_of : (Option Json → Bool) → (List ℕ → Option Json) → Option (List ℕ) → List (List Token)
wrong_use_of test find None = []
wrong_use_of test find (Some name) = under (Name (codes "reference")) (here_unless (test (find name)))

abbrev pub wrong_use : Components → Part → (Option Json → Bool) → Check
wrong_use find part test j = wrong_use_of test (find part) (reused_name part j)

-- the item is a reusable object whose component isn't there
abbrev pub lost_use : Components → Part → Check
lost_use find part = wrong_use find part is_some

abbrev pub has_text : List Step → Json → List ℕ → Bool
has_text site j s = is_among (texts_at site j) s

abbrev pub is_workflow : Json → List ℕ → Bool
is_workflow root = has_text (workflows ++ member (codes "workflowId") ∷ []) root

abbrev pub is_source : Json → List ℕ → Bool
is_source root = has_text (sources ++ member (codes "name") ∷ []) root

-- of a workflow
abbrev pub is_step : Json → List ℕ → Bool
is_step workflow = has_text (own_steps ++ member (codes "stepId") ∷ []) workflow

-- the source that is named, if one is, is there
abbrev pub names_known : (List ℕ → Bool) → Option (List ℕ × List ℕ) → Bool
names_known known None = true
names_known known (Some p) = known p.0

abbrev pub goes_known : (List ℕ → Bool) → Option (List ℕ) → Bool
goes_known known None = true
goes_known known (Some id) = known id

-- the component is an action that goes to no step or to one of these
abbrev pub goes_to : (List ℕ → Bool) → Option Json → Bool
goes_to known None = true
goes_to known (Some action) = goes_known known (text_named (codes "stepId") action)

-- the actions of a workflow that name no step of it, or refer to one that does
abbrev pub lost_steps : Components → (List ℕ → Bool) → Check
lost_steps find known workflow =
    at_each (success_items ++ failure_items) (unless_reuse (at (only (codes "stepId")) (bad_text known))) workflow
    ++ at_each success_items (wrong_use find SuccessActions (goes_to known)) workflow
    ++ at_each failure_items (wrong_use find FailureActions (goes_to known)) workflow

abbrev pub lost_steps_of : Components → Check
lost_steps_of find workflow = lost_steps find (is_step workflow) workflow

abbrev pub is_there : (List ℕ → Option Json) → Option (List ℕ) → Bool
is_there find None = true
is_there find (Some name) = is_some (find name)

abbrev pub is_input : Components → List ℕ → Bool
is_input find text = is_there (find Inputs) (input_name text)

-- names of workflows that aren't among those that are known
abbrev pub lost_workflows_by : (List ℕ → Bool) → Check
lost_workflows_by known root =
    at (workflows ++ items_of (codes "dependsOn")) (bad_text known) root
    ++ at (steps ++ only (codes "workflowId")) (bad_text known) root
    ++ each_action (at (only (codes "workflowId")) (bad_text known)) root

-- sources that are descriptions of workflows, and names of sources that aren't among those that are known
abbrev pub lost_sources_by : (List ℕ → Bool) → Check
lost_sources_by known root =
    at (sources ++ only (codes "type")) (bad_text (fits Wanted.NotArazzo)) root
    ++ at (steps ++ only (codes "operationId")) (bad_text (λ s. names_known known (source_and_id s))) root
    ++ at (steps ++ only (codes "operationPath")) (bad_text (λ s. names_known known (source_and_pointer s))) root

abbrev pub lost_names_with : (List ℕ → Bool) → (List ℕ → Bool) → Check
lost_names_with flows names root = lost_workflows_by flows root ++ lost_sources_by names root

abbrev pub lost_components : Components → Check
lost_components find root =
    at (workflows ++ member (codes "inputs") ∷ only (codes "$ref")) (bad_text (is_input find)) root
    ++ at_each (before workflows success_items) (lost_use find SuccessActions) root
    ++ at_each (before workflows failure_items) (lost_use find FailureActions) root
    ++ at_each ((workflows ++ parameters_of) ∷ (steps ++ parameters_of) ∷ []) (lost_use find Parameters) root

abbrev pub lost_references : Components → Check
lost_references find root = lost_names_with (is_workflow root) (is_source root) root ++ at workflows (lost_steps_of find) root ++ lost_components find root

-- ---- a use of a parameter that goes into requests lacks its place

abbrev pub has_place : Option Json → Bool
has_place None = true
has_place (Some j) = is_some (member_in (codes "in") j)

abbrev pub placeless_uses : Components → Check
placeless_uses find root =
    at (workflows ++ parameters_of) (wrong_use find Parameters has_place) root
    ++ at steps (unless_flow (at parameters_of (wrong_use find Parameters has_place))) root
