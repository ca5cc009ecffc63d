-- The workflows and steps of a raw description (Arazzo 1.0.1, 4.6.4 and 4.6.5). What it doesn't have is empty here; no
-- description that passed its rules lacks it.
use Rattle.std.specs.Prelude.{ℕ, List, [], find, codes, Option, Some, None}
use Rattle.std.specs.Str.{bytes_eq}
pub use Rattle.arz_json.specs.Look.{text_at, items_at, members_at}
use Rattle.arz_json.specs.declared.Json.{Json}
use Rattle.arz_flow.specs.declared.bundle.Bundle.{Bundle}

-- the first workflow with this workflowId
abbrev pub workflow_named : List ℕ → Json → Option Json
workflow_named id description = find (λ w. bytes_eq (text_at (codes "workflowId") w) id) (items_at (codes "workflows") description)

-- the steps of a workflow, in order
abbrev pub steps_in : Option Json → List Json
steps_in None = []
steps_in (Some workflow) = items_at (codes "steps") workflow

abbrev pub steps_of : Bundle → List ℕ → List Json
steps_of b workflow = steps_in (workflow_named workflow b.arazzo)

-- the success criteria of a step, in order (4.6.5.1: successCriteria)
abbrev pub criteria_of : Json → List Json
criteria_of step = items_at (codes "successCriteria") step
