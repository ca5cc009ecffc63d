-- The rules of a description that need this document alone, by their numbers.
use Rattle.std.specs.Prelude.{ℕ, Bool, List, [], ◌∷◌, ◌++◌}
use Rattle.arz_json.specs.declared.tree.Json.{Json}
use Rattle.arz_json.specs.declared.place.Token.{Token}
use Rattle.arz_rules.specs.declared.kinds.Kind.TheVariants as Kind
use Rattle.arz_rules.specs.Misses.{misses}
use Rattle.arz_rules.specs.Phases.{Rule}
use Rattle.arz_rules.specs.Sites.{Check}
use Rattle.arz_doc.specs.declared.order.Failure.{Failure}
use Rattle.arz_components.specs.Described.{Components, component}
use Rattle.arz_doc.specs.Cycles.{circular}
use Rattle.arz_names.specs.Names.{placeless_uses, bad_version, wrong_names, duplicates, mixtures, lost_references}
use Rattle.arz_criteria.specs.Rules.{fraction_conditions, bad_conditions, bad_paths, bad_patterns}
use Rattle.arz_contents.specs.Contents.{xpaths, type_objects, fractions, bad_expressions, bad_headers, bad_media_types, over_limits}

-- a member that is missing or has another kind, and a use of a parameter that lacks its place
abbrev pub wrong_shapes : Components → Check
wrong_shapes find root = misses root Kind.Description ++ placeless_uses find root

abbrev pub shape_rules : Components → Json → List Rule
shape_rules find root = (3, wrong_shapes find root) ∷ (4, bad_version root) ∷ (5, wrong_names root) ∷ []

-- these take a test of the workflows that depend on themselves, by their numbers
abbrev pub naming_rules : Components → (ℕ → Bool) → Json → List Rule
naming_rules find is_cyclic root =
    (6, duplicates find root) ∷ (7, mixtures root) ∷ (8, lost_references find root) ∷ (9, circular is_cyclic root) ∷ []

abbrev pub value_rules : Json → List Rule
value_rules root = (10, xpaths root) ∷ (11, type_objects root) ∷ (12, fractions root) ∷ (13, bad_expressions root) ∷ []

-- the same, with the rules of criteria that need no pattern
abbrev pub judged_rules : Json → List Rule
judged_rules root =
    (10, xpaths root) ∷ (11, type_objects root) ∷ (12, fractions root ++ fraction_conditions root) ∷ (13, bad_expressions root)
    ∷ (14, bad_conditions root) ∷ (15, bad_paths root) ∷ []

-- these take a test of the patterns that have no reading
abbrev pub pattern_rules : (List ℕ → Bool) → Json → List Rule
pattern_rules refuses root = (16, bad_patterns refuses root) ∷ []

abbrev pub sending_rules : Json → List Rule
sending_rules root = (22, bad_headers root) ∷ (23, bad_media_types root) ∷ (24, over_limits root) ∷ []

unfoldable pub name_rules : Components → (ℕ → Bool) → Json → List Rule
name_rules find is_cyclic root = shape_rules find root ++ naming_rules find is_cyclic root

unfoldable pub content_rules : Json → List Rule
content_rules root = value_rules root ++ sending_rules root

unfoldable pub rules_with : Components → (ℕ → Bool) → Json → List Rule
rules_with find is_cyclic root = name_rules find is_cyclic root ++ content_rules root

unfoldable pub rules : (ℕ → Bool) → Json → List Rule
rules is_cyclic root = rules_with (component root) is_cyclic root

-- the rules of a description and of its criteria
unfoldable pub whole_rules_with : Components → (ℕ → Bool) → (List ℕ → Bool) → Json → List Rule
whole_rules_with find is_cyclic refuses root = name_rules find is_cyclic root ++ judged_rules root ++ pattern_rules refuses root ++ sending_rules root

unfoldable pub whole_rules : (ℕ → Bool) → (List ℕ → Bool) → Json → List Rule
whole_rules is_cyclic refuses root = whole_rules_with (component root) is_cyclic refuses root

-- a failure as a number and a place
abbrev pub seen_failure : Failure → ℕ × List Token
seen_failure f = (f.rule, f.place.tokens)

-- ---- for private clauses: the rules before that of patterns, and those from it on

unfoldable pub rules_before : Components → (ℕ → Bool) → Json → List Rule
rules_before find is_cyclic root = name_rules find is_cyclic root ++ judged_rules root

unfoldable pub rules_from : (List ℕ → Bool) → Json → List Rule
rules_from refuses root = pattern_rules refuses root ++ sending_rules root
