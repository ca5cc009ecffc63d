-- What texts of a description are asked to be, and where names and outputs stand (Arazzo 1.0.1, section 4.6).
use Rattle.std.specs.Prelude.{ℕ, List, [], ◌∷◌, ◌++◌, ◌+◌, codes, Bool, not, if◌then◌else◌}
use Rattle.std.specs.Str.{bytes_eq}
use Rattle.arz_rules.specs.Sites.{Step, member, each_member, Check, after as more}
use Rattle.arz_rules.specs.Texts.{is_version}
use Rattle.arz_sites.specs.Texts.{is_header, is_media_type, is_expression, is_operation_path}
use Rattle.arz_components.specs.Described.{part_name}
use Rattle.arz_sites.specs.Sites.{sources, workflows, steps, runs_workflow}
use Rattle.arz_components.specs.declared.components.Part.{Part}
use Rattle.arz_components.specs.declared.components.Part.TheVariants.{Inputs, Parameters, SuccessActions, FailureActions}
use Rattle.arz_sites.specs.declared.checks.Wanted.{Wanted}

-- the texts that a member may be asked to be
abbrev pub fits : Wanted → List ℕ → Bool
fits Wanted.Version text = is_version (codes "1.0.") text
fits Wanted.NotArazzo text = not (bytes_eq text (codes "arazzo"))
fits Wanted.NotXpath text = not (bytes_eq text (codes "xpath"))
fits Wanted.Expression text = is_expression text
fits Wanted.OperationPath text = is_operation_path text
fits Wanted.Header text = is_header text
fits Wanted.MediaType text = is_media_type text

-- a check of steps that call an operation
abbrev pub unless_flow : Check → Check
unless_flow check j = if runs_workflow j then [] else check j

-- ---- the name of a source, workflow, step, output or component is no name

abbrev pub names : List (List Step)
names =
    (sources ++ member (codes "name") ∷ [])
    ∷ (workflows ++ member (codes "workflowId") ∷ [])
    ∷ (steps ++ member (codes "stepId") ∷ [])
    ∷ []

abbrev pub components_of : Part → List Step
components_of part = member (codes "components") ∷ member (part_name part) ∷ []

-- the objects whose members are called by names
abbrev pub named : List (List Step)
named =
    (workflows ++ member (codes "outputs") ∷ [])
    ∷ (steps ++ member (codes "outputs") ∷ [])
    ∷ components_of Inputs ∷ components_of Parameters ∷ components_of SuccessActions ∷ components_of FailureActions
    ∷ []

abbrev pub outputs : List (List Step)
outputs = more (member (codes "outputs") ∷ each_member ∷ []) (workflows ∷ steps ∷ [])
