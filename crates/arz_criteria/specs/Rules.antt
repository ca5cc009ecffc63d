-- The rules of criteria (Arazzo 1.0.1, section 4.6.11), each as the places that fail it.
use Rattle.std.specs.Prelude.{◌≡◌, ℕ, List, [], ◌∷◌, ◌++◌, map, filter, All, Bool, true, false, ◌&&◌, not, codes, if◌then◌else◌, Some, None}
use Rattle.std.specs.List.{flat_map}
use Rattle.std.specs.Option.{IsSome, option_map_or}
use Rattle.arz_json.specs.declared.tree.Json.{Json}
use Rattle.arz_json.specs.declared.place.Token.{Token}
use Rattle.arz_json.specs.declared.place.Token.TheVariants.{Name}
use Rattle.arz_json.specs.Look.{text_at}
use Rattle.arz_rx.specs.Patterns.{Told}
use Rattle.arz_query.specs.declared.fault.PathFault.{PathFault}
use Rattle.arz_query.specs.declared.fault.PathFault.TheVariants as path_fault
use Rattle.arz_cond.specs.Criteria.{criterion_at}
use Rattle.arz_cond.specs.Outcomes.{Patterned, is_kind, tree_fault}
use Rattle.arz_cond.specs.declared.fault.TestFault.{TestFault}
use Rattle.arz_cond.specs.declared.fault.TestFault.TheVariants as fault
use Rattle.arz_rules.specs.Sites.{Step, Check, found, after}
use Rattle.arz_sites.specs.Sites.{steps, items_of, criteria_of, listed_actions, shared_actions, each_criterion}

-- the condition of a criterion, where a test takes it
abbrev pub condition_if : Bool → List (List Token)
condition_if fails = if fails then (Name (codes "condition") ∷ []) ∷ [] else []

-- ---- conditions that can't be read

-- where the fault of a criterion is one that the test takes
abbrev pub faulty : (TestFault → Bool) → Check
faulty takes j = condition_if (option_map_or takes (tree_fault j) false)

abbrev pub is_fraction_in_path : PathFault → Bool
is_fraction_in_path path_fault.Syntax = false
is_fraction_in_path (path_fault.IllTyped at) = false
is_fraction_in_path (path_fault.Fraction at) = true
is_fraction_in_path (path_fault.IntegerRange at) = false
is_fraction_in_path (path_fault.TooNested at) = false
is_fraction_in_path path_fault.Memory = false

-- a number with a fraction or an exponent, in a condition or in a query
abbrev pub is_fraction : TestFault → Bool
is_fraction fault.Fraction = true
is_fraction fault.BadExpression = false
is_fraction fault.BadCondition = false
is_fraction (fault.BadPath f) = is_fraction_in_path f
is_fraction fault.Memory = false

-- no condition
abbrev pub is_bad_condition : TestFault → Bool
is_bad_condition fault.Fraction = false
is_bad_condition fault.BadExpression = false
is_bad_condition fault.BadCondition = true
is_bad_condition (fault.BadPath f) = false
is_bad_condition fault.Memory = false

-- no query, for another reason than a fraction
abbrev pub is_bad_path : TestFault → Bool
is_bad_path fault.Fraction = false
is_bad_path fault.BadExpression = false
is_bad_path fault.BadCondition = false
is_bad_path (fault.BadPath f) = not (is_fraction_in_path f)
is_bad_path fault.Memory = false

abbrev pub fraction_conditions : Check
fraction_conditions root = each_criterion (faulty is_fraction) root

abbrev pub bad_conditions : Check
bad_conditions root = each_criterion (faulty is_bad_condition) root

abbrev pub bad_paths : Check
bad_paths root = each_criterion (faulty is_bad_path) root

-- ---- patterns without reading, where `refuses` tells which have none

abbrev pub is_regex : Json → Bool
is_regex j = is_kind (codes "regex") (criterion_at j)

abbrev pub pattern_of : Json → List ℕ
pattern_of j = text_at (codes "condition") j

abbrev pub bad_pattern : (refuses : List ℕ → Bool) → Check
bad_pattern refuses j = condition_if (is_regex j && refuses (pattern_of j))

abbrev pub bad_patterns : (refuses : List ℕ → Bool) → Check
bad_patterns refuses root = each_criterion (bad_pattern refuses) root

-- wherever criteria are written
abbrev pub criteria_sites : List (List Step)
criteria_sites = (steps ++ items_of (codes "successCriteria")) ∷ after criteria_of (listed_actions ++ shared_actions)

-- the patterns of a description's criteria
abbrev pub patterns_at : List Step → Json → List (List ℕ)
patterns_at site root = map pattern_of (filter is_regex (found site root))

abbrev pub patterns_in : Json → List (List ℕ)
patterns_in root = flat_map (λ site. patterns_at site root) criteria_sites

-- A pattern has no reading where its search in the empty text says so. This is what is told of that search.
abbrev pub SaysReading : Told → Bool → Type 0
SaysReading None refused = Unit {0}
SaysReading (Some None) refused = refused ≡ true
SaysReading (Some (Some found)) refused = refused ≡ false

-- the test says which of a description's patterns have no reading, where that is told
pub record TellsReadings (told : Patterned) (root : Json) (refuses : List ℕ → Bool) : Type 0 where
  pub exact : All (λ p. SaysReading (told p []) (refuses p)) (patterns_in root)

-- of each of a description's patterns that is told
abbrev pub AreReadingsTold : Patterned → Json → Type 0
AreReadingsTold told root = All (λ p. IsSome (told p [])) (patterns_in root)
