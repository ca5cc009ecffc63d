-- What the least place of a list is, and what the table of kinds keeps to.
use Rattle.std.specs.Prelude.{◌≡◌, List, [], ◌∷◌, ◌&&◌, Option, Some, None, Bool, true, false, ◌⊎◌}
use Rattle.std.specs.Ordering.{is_gt}
use Rattle.arz_json.specs.declared.place.Token.{Token}
use Rattle.arz_rules.specs.Place.{tokens_cmp}
use Rattle.arz_rules.specs.Shapes as shape
use Rattle.arz_rules.specs.Shapes.{Shape, Case}
use Rattle.arz_rules.specs.Kinds.{form_of}

abbrev pub IsIn : List (List Token) → List Token → Type 0
IsIn [] q = ⊥
IsIn (p ∷ ps) q = (q ≡ p) ⊎ IsIn ps q

-- no place where there is none; else one of them, with none before it
abbrev pub IsLeast : List (List Token) → Option (List Token) → Type 0
IsLeast ps None = (q : List Token) → IsIn ps q → ⊥
IsLeast ps (Some p) = IsIn ps p × ((q : List Token) → IsIn ps q → is_gt (tokens_cmp p q) ≡ false)

-- ---- choices of kinds

-- the kind is no choice
abbrev pub is_settled : Shape → Bool
is_settled (shape.chosen cases other) = false
is_settled _ = true

-- whether a tree has the kind is told without a look at what is inside it
abbrev pub is_flat : Shape → Bool
is_flat shape.anything = true
is_flat shape.text = true
is_flat (shape.words ws) = true
is_flat _ = false

abbrev pub are_settled : List Case → Bool
are_settled [] = true
are_settled (c ∷ cs) = is_flat (form_of c.1) && is_settled (form_of c.2) && are_settled cs

-- what a choice leads to is no choice again, and what it looks at is flat
abbrev pub is_chosen_once : Shape → Bool
is_chosen_once (shape.chosen cases other) = are_settled cases && is_settled (form_of other)
is_chosen_once _ = true
