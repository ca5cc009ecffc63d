-- Places and nodes of a tree (RFC 9535, sections 1.1 and 2.7).
use Rattle.std.specs.Prelude.{ℕ, List, [], ◌∷◌, ◌++◌, map}
use Rattle.std.specs.List.{enumerate_from, flat_map}
use Rattle.arz_json.specs.declared.tree.Json.{Json, out-Json}
use Rattle.arz_json.specs.declared.tree.Json.TheOpen.{Json-F, Member-F}
use Rattle.arz_json.specs.declared.tree.Json.TheFolds.{para-Json}
use Rattle.arz_json.specs.declared.tree.Member.{Member}
use Rattle.arz_json.specs.declared.place.Token.{Token}
use Rattle.arz_json.specs.declared.place.Token.TheVariants.{Name, Index}

-- a place in a tree, and what stands there
abbrev pub Node : Type 0
Node = List Token × Json

abbrev pub items_in : Json-F Json Member → List Json
items_in (Json-F.List js) = js
items_in _ = []

-- the items of a list; none of another value
abbrev pub items_of : Json → List Json
items_of j = items_in (out-Json j)

abbrev pub members_in : Json-F Json Member → List Member
members_in (Json-F.Object ms) = ms
members_in _ = []

-- the members of an object; none of another value
abbrev pub members_of : Json → List Member
members_of j = members_in (out-Json j)

abbrev pub item_child : ℕ × Json → Token × Json
item_child p = (Index p.0, p.1)

abbrev pub member_child : Member → Token × Json
member_child m = (Name m.name, m.value)

-- the children: the items or the members' values, each with its step
abbrev pub children : Json → List (Token × Json)
children j = map item_child (enumerate_from 0 (items_of j)) ++ map member_child (members_of j)

-- the same nodes, below a step
abbrev pub under : Token → List Node → List Node
under token nodes = map (λ n. (token ∷ n.0, n.1)) nodes

-- a child and all below it
abbrev pub with_child : Token → Json × List Node → List Node
with_child token c = (token ∷ [], c.0) ∷ under token c.1

-- one level, with what is below each child beside it
abbrev pub below_step : Json-F (Json × List Node) (Member × (List ℕ × (Json × List Node))) → List Node
below_step (Json-F.List cs) = flat_map (λ p. with_child (Index p.0) p.1) (enumerate_from 0 cs)
below_step (Json-F.Object ms) = flat_map (λ m. with_child (Name m.1.0) m.1.1) ms
below_step Json-F.Null = []
below_step (Json-F.Flag b) = []
below_step (Json-F.Int z) = []
below_step (Json-F.Text s) = []
below_step Json-F.Opaque = []

abbrev pub named_child : Member-F (Json × List Node) (Member × (List ℕ × (Json × List Node))) → List ℕ × (Json × List Node)
named_child m = (m.name, m.value)

-- all nodes below, in preorder
abbrev pub below : Json → List Node
below = para-Json (List Node) (List ℕ × (Json × List Node)) below_step named_child

-- a node and all its descendants, itself first (2.5.2.2)
abbrev pub preorder : Node → List Node
preorder n = n ∷ map (λ d. (n.0 ++ d.0, d.1)) (below n.1)
