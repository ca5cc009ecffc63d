-- For private clauses: what the code holds, as the definitions see it.
use Rattle.std.specs.List.{enumerate_from}
use denote.Ref.{Bor}
use Rattle.std.specs.Prelude.{ℕ, ℤ, pos, negsuc, ◌+◌, List, [], ◌∷◌, ◌++◌, map, filter, drop, length, Bool, true, false, Option, Some, None, option_map}
use Rattle.std.specs.declared.vec.Vec.{Vec}
use Rattle.std.specs.declared.alloc.Global.{Global}
use Rattle.arz_json.specs.declared.tree.Json.{Json}
use Rattle.arz_json.specs.declared.tree.Json.TheVariants as tree
use Rattle.arz_json.specs.declared.tree.Member.{Member}
use Rattle.arz_query.specs.declared.query.Slice.{Slice}
use Rattle.arz_query.specs.declared.query.Start.{Start}
use Rattle.arz_query.specs.declared.query.Selector.{Selector}
use Rattle.arz_query.specs.declared.query.Segment.{Segment}
use Rattle.arz_query.specs.declared.query.Test.{Test}
use Rattle.arz_json.specs.declared.place.Token.{Token}
use Rattle.arz_json.specs.declared.place.Token.TheVariants.{Name, Index}
use Rattle.arz_path.specs.declared.nodes.Step.{Step}
use Rattle.arz_path.specs.declared.nodes.Step.TheVariants as step
use Rattle.arz_path.specs.declared.nodes.Trail.{Trail, Child'}
use Rattle.arz_path.specs.declared.nodes.Trail.{Start as Begin}
use Rattle.arz_path.specs.declared.nodes.Held.{Held}
use Rattle.arz_path.specs.declared.nodes.Branch.{Branch}
use Rattle.arz_path.specs.declared.children.Children.{Children}
use Rattle.arz_path.specs.declared.walk.Level.{Level}
use Rattle.arz_path.specs.declared.walk.Mark.TheVariants as mark
use Rattle.arz_path.specs.declared.walk.Mark.{Mark}
use Rattle.arz_path.specs.declared.walk.Walk.{Walk}
use Rattle.arz_path.specs.Outcome.{Outcome, outcome_map, each, parts}
use Rattle.arz_path.specs.Tree.{Node, preorder, item_child, member_child}
use Rattle.arz_path.specs.Spots.{Spot, further, down, down_all}
use Rattle.arz_path.specs.declared.nodes.Found.{Found}
use Rattle.arz_path.specs.declared.values.Worth.{Worth}
use Rattle.arz_path.specs.declared.values.Worth.TheVariants as worth
use Rattle.std.specs.Option.{option_copied}
use Rattle.arz_path.specs.Selected.{Setting, kept, below_node, selector_meaning, segment_meaning, test_meaning, run, inner, only, up_to, past, bound, is_taken}

abbrev pub token_of : Step → Token
token_of (step.Name s) = Name s.now
token_of (step.Index i) = Index i

abbrev pub tokens_of : Trail → List Token
tokens_of Begin = []
tokens_of (Child' p t s) = tokens_of t ++ token_of s ∷ []

abbrev pub place_in : Option (Bor Trail) → Option (List Token)
place_in t = option_map tokens_of (option_copied t)

-- a node
abbrev pub seen : Held → Spot
seen n = (place_in n.trail, n.value.now)

-- a child, with its step
abbrev pub branch_of : Branch → Token × Json
branch_of b = (token_of b.step, b.value.now)

abbrev pub all_seen : Vec Held Global → List Spot
all_seen nodes = map seen nodes.items

-- the nodes of items and of members below a place
abbrev pub item_nodes : List Token → ℕ → List Json → List Node
item_nodes place i [] = []
item_nodes place i (j ∷ js) = preorder (place ++ Index i ∷ [], j) ++ item_nodes place (i + 1) js

abbrev pub member_nodes : List Token → List Member → List Node
member_nodes place [] = []
member_nodes place (m ∷ ms) = preorder (place ++ Name m.name ∷ [], m.value) ++ member_nodes place ms

-- the children that pass a test
unfoldable pub kept_all : Setting → Test → List (Token × Json) → Outcome (List (Token × Json))
kept_all setting t cs = each (λ c. outcome_map (kept c) (test_meaning t setting c.1)) cs

-- what a selector chooses at a node, selectors at a node, and selectors at each of some nodes
unfoldable pub picked : Setting → Node → Selector → Outcome (List Node)
picked setting n s = outcome_map (below_node n) (selector_meaning s setting n.1)

unfoldable pub chosen : Setting → List Selector → Node → Outcome (List Node)
chosen setting ss n = each (picked setting n) ss

unfoldable pub chosen_all : Setting → List Selector → List Node → Outcome (List Node)
chosen_all setting ss ns = each (chosen setting ss) ns

-- what each test says at a current node
unfoldable pub tested_all : Setting → Json → List Test → Outcome (List Bool)
tested_all setting current ts = parts (λ t. test_meaning t setting current) ts

-- segment after segment
unfoldable pub run_all : Setting → List Segment → List Node → Outcome (List Node)
run_all setting ss ns = run (map segment_meaning ss) setting ns

-- the nodes of a query inside a filter
unfoldable pub found_all : Setting → Json → Start → List Segment → Outcome (List Node)
found_all setting current start ss = inner start (map segment_meaning ss) setting current

-- the children that are still to come
abbrev pub coming : Children → List (Token × Json)
coming c = map item_child (enumerate_from c.next (drop c.next c.items.now)) ++ map member_child c.members.now

-- ---- a walk through a tree

-- the place of the child on the path
abbrev pub stood : Option (List Token) → Mark → Option (List Token)
stood p (mark.Made t) = place_in t
stood p (mark.Step s) = further p (token_of s)

-- for each level the place of the child on the path, and the children that come after it
abbrev pub rows : Option (List Token) → List Level → List (Option (List Token) × List (Token × Json))
rows p [] = []
rows p (l ∷ ls) = (stood p l.mark, coming l.children) ∷ rows (stood p l.mark) ls

-- the place at the end of the path
abbrev pub end_of : Option (List Token) → List (Option (List Token) × List (Token × Json)) → Option (List Token)
end_of p [] = p
end_of p (r ∷ rs) = end_of r.0 rs

-- the nodes after the one at the end of the path and all below it, those of the last level first
abbrev pub left_of : Option (List Token) → List (Option (List Token) × List (Token × Json)) → List Spot
left_of p [] = []
left_of p (r ∷ rs) = left_of r.0 rs ++ down_all p r.1

-- the node where a walk stands, and what comes after that and all below it
unfoldable pub way : Walk → Spot × List Spot
way w = let p = place_in w.start in let rs = rows p w.path.items in ((end_of p rs, w.value.now), left_of p rs)

-- the node where it stands and all that comes
abbrev pub ahead : Spot × List Spot → List Spot
ahead w = down w.0 ++ w.1

-- how many nodes there are, and the value of the only one
abbrev pub found_in : List Node → ℕ × Option Json
found_in ns = (length ns, only ns)

abbrev pub only_spot : List Spot → Option Json
only_spot (s ∷ []) = Some s.1
only_spot _ = None

abbrev pub spots_found : List Spot → ℕ × Option Json
spots_found ss = (length ss, only_spot ss)

abbrev pub some_spot : List Spot → Bool
some_spot [] = false
some_spot (s ∷ ss) = true

-- the place, where it is kept
abbrev pub place_told : Option (List Token) → List Token
place_told (Some p) = p
place_told None = []

abbrev pub places_told : List Spot → List (List Token)
places_told ss = map (λ s. place_told s.0) ss

abbrev pub found_seen : Found → ℕ × Option Json
found_seen f = (f.count, option_copied f.only)

-- a value of a filter; None is Nothing
abbrev pub worth_seen : Worth → Option Json
worth_seen worth.Nothing = None
worth_seen worth.Null = Some tree.Null
worth_seen (worth.Flag b) = Some (tree.Flag b)
worth_seen (worth.Int z) = Some (tree.Int z)
worth_seen (worth.Text t) = Some (tree.Text t.now)
worth_seen (worth.Tree j) = Some j.now

abbrev pub bits_seen : Vec Bool Global → List Bool
bits_seen v = v.items

-- the range in which a slice takes items of n
abbrev pub lowest : Slice → ℕ → ℤ → ℕ
lowest s n (pos step) = bound (up_to n) 0 s.start
lowest s n (negsuc k) = bound (past n) 0 s.end

abbrev pub highest : Slice → ℕ → ℤ → ℕ
highest s n (pos step) = bound (up_to n) n s.end
highest s n (negsuc k) = bound (past n) n s.start

-- the items that a slice takes of n, from the one at k
unfoldable pub taken_from : Slice → ℕ → ℕ → List Json → List (ℕ × Json)
taken_from s n k js = filter (λ p. is_taken s n s.step p.0) (enumerate_from k js)
