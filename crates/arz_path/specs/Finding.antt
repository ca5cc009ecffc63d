-- The node that a place names (RFC 9535, section 2.7).
use Rattle.std.specs.Prelude.{◌≡◌, List, [], ◌∷◌, Option, Some, option_and_then, slice_get}
use Rattle.arz_json.specs.Look.{member_in}
use Rattle.arz_json.specs.declared.tree.Json.{Json}
use Rattle.arz_json.specs.declared.place.Token.{Token}
use Rattle.arz_json.specs.declared.place.Token.TheVariants.{Name, Index}
use Rattle.arz_path.specs.Outcome.{Outcome, given, wide, untold}
use Rattle.arz_path.specs.Tree.{Node, items_of}

-- the child by a step
abbrev pub child_at : Token → Json → Option Json
child_at (Name k) j = member_in k j
child_at (Index i) j = slice_get (items_of j) i

-- step after step
abbrev pub found_at : List Token → Json → Option Json
found_at [] j = Some j
found_at (t ∷ ts) j = option_and_then (found_at ts) (child_at t j)

-- the place names the node
abbrev pub IsFound : Json → Node → Type 0
IsFound root n = found_at n.0 root ≡ Some n.1

abbrev pub Every : {X : Type 0} → (X → Type 0) → List X → Type 0
Every P [] = Unit {0}
Every P (x ∷ xs) = P x × Every P xs

-- it holds of each that is given
abbrev pub EachGiven : {X : Type 0} → (X → Type 0) → Outcome (List X) → Type 0
EachGiven P (given xs) = Every P xs
EachGiven P wide = Unit {0}
EachGiven P untold = Unit {0}
