-- The rules of what a setup names in a description: a workflow, sources, and the inputs of the workflow that is run.
use Rattle.std.specs.Prelude.{ℕ, List, [], ◌∷◌, ◌++◌, codes, Bool, true, Option, Some, None, option_and_then}
use Rattle.std.specs.Option.{is_some}
use Rattle.arz_json.specs.Look.{member_in}
use Rattle.arz_json.specs.declared.Json.{Json}
use Rattle.arz_json.specs.declared.Token.TheVariants.{Name}
use Rattle.arz_expr.specs.Reading.{after}
use Rattle.arz_rules.specs.Misses.{are_none}
use Rattle.arz_rules.specs.Phases.{Rule}
use Rattle.arz_rules.specs.Place.{under, here_unless}
use Rattle.arz_rules.specs.Sets.{is_among, texts_at, bad_text, bad_names}
use Rattle.arz_rules.specs.Sites.{Step, Check, member, each_item, at, text_named}
use Rattle.arz_flow.specs.Documents.{workflow_named}
use Rattle.arz_bundle.specs.Setup.{workflow_run}

-- ---- a workflow or a source that isn't there

abbrev pub workflow_ids : List Step
workflow_ids = member (codes "workflows") ∷ each_item ∷ member (codes "workflowId") ∷ []

abbrev pub source_names : List Step
source_names = member (codes "sourceDescriptions") ∷ each_item ∷ member (codes "name") ∷ []

abbrev pub unknown_workflow : (description : Json) → Check
unknown_workflow description = at (member (codes "workflow") ∷ []) (bad_text (is_among (texts_at workflow_ids description)))

abbrev pub unknown_sources : (description : Json) → Check
unknown_sources description setup =
    at (member (codes "sources") ∷ []) (bad_names (is_among (texts_at source_names description))) setup
    ++ at (member (codes "servers") ∷ []) (bad_names (is_among (texts_at source_names description))) setup
    ++ at (member (codes "overlays") ∷ each_item ∷ member (codes "source") ∷ []) (bad_text (is_among (texts_at source_names description))) setup

abbrev pub unknown_names : (description : Json) → Check
unknown_names description setup = unknown_workflow description setup ++ unknown_sources description setup

-- ---- an input that the workflow requires and the setup doesn't give

-- the schema with this name among the components (Arazzo 1.0.1, 4.6.9)
abbrev pub schema_with : (description : Json) → (name : List ℕ) → Option Json
schema_with description name = option_and_then (member_in name) (option_and_then (member_in (codes "inputs")) (member_in (codes "components") description))

-- the schema to which a `$ref` of `#/components/inputs/NAME` refers
abbrev pub schema_at : (description : Json) → (reference : List ℕ) → Option Json
schema_at description reference = option_and_then (schema_with description) (after (codes "#/components/inputs/") reference)

-- a schema itself, or the one that its `$ref` names; then what stands beside that is passed over
abbrev pub schema_meant : (description schema : Json) → (reference : Option (List ℕ)) → Option Json
schema_meant description schema None = Some schema
schema_meant description schema (Some reference) = schema_at description reference

abbrev pub schema_of : (description schema : Json) → Option Json
schema_of description schema = schema_meant description schema (text_named (codes "$ref") schema)

-- the schema of the inputs of a workflow (Arazzo 1.0.1, 4.6.4: `inputs`)
abbrev pub inputs_of : (description workflow : Json) → Option Json
inputs_of description workflow = option_and_then (schema_of description) (member_in (codes "inputs") workflow)

-- the setup gives an input with this name
abbrev pub is_given : (setup : Json) → List ℕ → Bool
is_given setup name = is_some (option_and_then (member_in name) (member_in (codes "inputs") setup))

-- the names under a schema's `required` (JSON Schema 2020-12, Validation 6.5.3) that the setup doesn't give
abbrev pub lacking : (setup : Json) → Check
lacking setup = at (member (codes "required") ∷ each_item ∷ []) (bad_text (is_given setup))

abbrev pub gives_all : (setup : Json) → Option Json → Bool
gives_all setup None = true
gives_all setup (Some schema) = are_none (lacking setup schema)

-- the schema of the inputs of the workflow that is run
abbrev pub schema_run : (setup description : Json) → Option Json
schema_run setup description = option_and_then (inputs_of description) (workflow_named (workflow_run setup description) description)

-- told at the setup's `inputs`, whether the member is there or not
abbrev pub missing_inputs : (description : Json) → Check
missing_inputs description setup = under (Name (codes "inputs")) (here_unless (gives_all setup (schema_run setup description)))

abbrev pub naming_rules : (description : Json) → Json → List Rule
naming_rules description setup = (8, unknown_names description setup) ∷ (27, missing_inputs description setup) ∷ []
