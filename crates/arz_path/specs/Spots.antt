-- For private clauses: nodes of which the places may be left out, and what the parts of a query select of them.
use Rattle.std.specs.Prelude.{List, [], ◌∷◌, ◌++◌, map, length, nat_lt, if◌then◌else◌, Option, option_map, Result, Ok, Err}
use Rattle.std.specs.List.{flat_map}
use Rattle.arz_json.specs.declared.tree.Json.{Json}
use Rattle.arz_json.specs.declared.place.Token.{Token}
use Rattle.arz_query.specs.declared.query.Segment.{Segment}
use Rattle.arz_query.specs.declared.query.Selector.{Selector}
use Rattle.arz_query.specs.declared.query.Test.{Test}
use Rattle.arz_query.specs.declared.query.Operand.{Operand}
use Rattle.arz_query.specs.declared.query.Operand.TheOpen.{Segment-F}
use Rattle.arz_query.specs.declared.query.Operand.TheViews.{out-Segment}
use Rattle.arz_path.specs.declared.fault.SelectFault.{SelectFault}
use Rattle.arz_path.specs.declared.fault.SelectFault.TheVariants.{TooWide}
use Rattle.arz_path.specs.Outcome.{Outcome, given, and_then, outcome_map, each}
use Rattle.arz_path.specs.Tree.{Node, below}
use Rattle.arz_path.specs.Selected.{Setting, widest, told_of, kept, selector_meaning, test_meaning}

-- a place, where places are kept, and what stands there
abbrev pub Spot : Type 0
Spot = Option (List Token) × Json

-- one step further
abbrev pub further : Option (List Token) → Token → Option (List Token)
further p t = option_map (λ q. q ++ t ∷ []) p

-- a node of a tree that stands at a place
abbrev pub placed : Option (List Token) → Node → Spot
placed p n = (option_map (λ q. q ++ n.0) p, n.1)

-- children of a node
abbrev pub spots_below : Spot → List (Token × Json) → List Spot
spots_below s cs = map (λ c. (further s.0 c.0, c.1)) cs

-- a node and all its descendants, itself first
unfoldable pub down : Spot → List Spot
down s = s ∷ map (placed s.0) (below s.1)

-- children of a node and all their descendants
abbrev pub down_all : Option (List Token) → List (Token × Json) → List Spot
down_all p cs = flat_map (λ c. down (further p c.0, c.1)) cs

-- a list, unless it is too wide
abbrev pub within : {X : Type 0} → List X → Result (List X) SelectFault
within xs = if nat_lt widest (length xs) then Err TooWide else Ok xs

abbrev pub narrow : {X : Type 0} → List X → Outcome (List X)
narrow xs = told_of (within xs)

-- these, and those more
abbrev pub joined : {X : Type 0} → List X → Outcome (List X) → Outcome (List X)
joined old more = outcome_map (λ xs. old ++ xs) more

-- these so far and those more, if not too wide
abbrev pub grown : {X : Type 0} → List X → Outcome (List X) → Outcome (List X)
grown old more = and_then narrow (joined old more)

-- what a filter chooses among children of a node
unfoldable pub sifted : Setting → Test → Spot → List (Token × Json) → Outcome (List Spot)
sifted setting t s cs = each (λ c. outcome_map (λ b. spots_below s (kept c b)) (test_meaning t setting c.1)) cs

-- what a selector chooses at a node, selectors at a node, and selectors at each of some nodes
unfoldable pub picked_at : Setting → Spot → Selector → Outcome (List Spot)
picked_at setting s x = outcome_map (spots_below s) (selector_meaning x setting s.1)

unfoldable pub chosen_at : Setting → List Selector → Spot → Outcome (List Spot)
chosen_at setting xs s = each (picked_at setting s) xs

unfoldable pub chosen_each : Setting → List Selector → List Spot → Outcome (List Spot)
chosen_each setting xs ss = each (chosen_at setting xs) ss

-- what a segment chooses from a node
abbrev pub reached_in : Setting → Segment-F Operand Segment Selector Test → Spot → Outcome (List Spot)
reached_in setting (Segment-F.Child xs) s = chosen_at setting xs s
reached_in setting (Segment-F.Descendant xs) s = chosen_each setting xs (down s)

unfoldable pub reached : Setting → Segment → Spot → Outcome (List Spot)
reached setting v s = reached_in setting (out-Segment v) s

-- the nodes after a segment, and after some
unfoldable pub spots_after : Setting → Segment → List Spot → Outcome (List Spot)
spots_after setting v ss = grown [] (each (reached setting v) ss)

unfoldable pub spots_after_all : Setting → List Segment → List Spot → Outcome (List Spot)
spots_after_all setting [] ss = given ss
spots_after_all setting (v ∷ vs) ss = and_then (spots_after_all setting vs) (spots_after setting v ss)
