-- What isn't built yet: each row names members of a description (Arazzo 1.0.1, 4.6) that aren't taken.
use Rattle.std.specs.Prelude.{List, [], ◌∷◌, ◌++◌, codes}
use Rattle.arz_json.specs.declared.Json.{Json}
use Rattle.arz_json.specs.declared.Token.{Token}
use Rattle.arz_json.specs.declared.Token.TheVariants.{Index}
use Rattle.arz_rules.specs.Place.{here}
use Rattle.arz_rules.specs.Sites.{Step, Check, member, each_item, at, at_each, items}

-- what stands there fails
abbrev pub everywhere : Check
everywhere j = here

-- ---- the description

abbrev pub workflows : List Step
workflows = member (codes "workflows") ∷ each_item ∷ []

abbrev pub steps : List Step
steps = member (codes "workflows") ∷ each_item ∷ member (codes "steps") ∷ each_item ∷ []

abbrev pub second_of : List Json → List (List Token)
second_of [] = []
second_of (j ∷ []) = []
second_of (j ∷ k ∷ more) = (Index 1 ∷ []) ∷ []

-- the second item of a list
abbrev pub second : Check
second j = second_of (items j)

abbrev pub second_workflow : Check
second_workflow root = at (member (codes "workflows") ∷ []) second root

-- members of workflows and of steps; what stands inside of one, as the criteria of an action, is told there
abbrev pub unbuilt_members : List (List Step)
unbuilt_members =
    (workflows ++ member (codes "dependsOn") ∷ [])
    ∷ (workflows ++ member (codes "successActions") ∷ [])
    ∷ (workflows ++ member (codes "failureActions") ∷ [])
    ∷ (steps ++ member (codes "workflowId") ∷ [])
    ∷ (steps ++ member (codes "onSuccess") ∷ [])
    ∷ (steps ++ member (codes "onFailure") ∷ [])
    ∷ []

abbrev pub unbuilt_of_description : Check
unbuilt_of_description root = second_workflow root ++ at_each unbuilt_members everywhere root
