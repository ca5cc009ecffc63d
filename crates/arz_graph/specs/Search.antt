-- For private clauses: where a search for strong components stands.
use Rattle.std.specs.Prelude.{◌≡◌, ◌<◌, ◌≤◌, ◌+◌, ℕ, List, [], ◌∷◌, ◌++◌, Bool, true, false, length, replicate, slice_set, slice_index_or, take, ◌⊎◌}
use Rattle.arz_graph.specs.declared.search.Mark.{Mark}
use Rattle.arz_graph.specs.declared.search.Mark.TheVariants.{Unseen, OnPath, Done}
use Rattle.arz_graph.specs.declared.search.Component.{Component}
use Rattle.arz_graph.specs.declared.search.Search.{Search}
use Rattle.arz_graph.specs.Reaches.{Graph, targets, Edge, Reaches}

-- the marks of the nodes; the path with the nodes that it has contracted; the targets still to be followed; and
-- the components of the path
pub record Stand : Type 0 where
  pub mark : ℕ → Mark
  pub depth : ℕ
  pub node : ℕ → ℕ
  pub pending : ℕ
  pub target : ℕ → ℕ
  pub count : ℕ
  pub component : ℕ → Component

abbrev pub end : List ℕ → List ℕ → Component
end nodes edges = record { nodes = length nodes; edges = length edges; cyclic = false }

abbrev pub stand : List Mark → List ℕ → List ℕ → List Component → Stand
stand marks nodes edges components = record {
  mark = λ x. slice_index_or marks x (Done false);
  depth = length nodes;
  node = λ k. slice_index_or nodes k 0;
  pending = length edges;
  target = λ k. slice_index_or edges k 0;
  count = length components;
  component = λ f. slice_index_or components f (end nodes edges);
}

-- where a component begins, and the next one
abbrev pub bound : Stand → ℕ → ℕ
bound s f = (s.component f).nodes

abbrev pub edge_bound : Stand → ℕ → ℕ
edge_bound s f = (s.component f).edges

pub record Within (s : Stand) (f a : ℕ) : Type 0 where
  pub above : bound s f ≤ a
  pub below : a < bound s (f + 1)

abbrev pub IsDone : Mark → Type 0
IsDone mark = (cyclic : Bool) × (mark ≡ Done cyclic)

abbrev pub Joined : (ℕ → ℕ → Type 0) → ℕ → ℕ → Type 0
Joined E x y = (x ≡ y) ⊎ Reaches E x y

pub record IsSource (E : ℕ → ℕ → Type 0) (s : Stand) (f y a : ℕ) : Type 0 where
  pub within : Within s f a
  pub leads : E (s.node a) y

-- the nodes of the path are those that are marked so, each with its place
pub record IsPlaced (s : Stand) : Type 0 where
  pub placed : (k : ℕ) → k < s.depth → s.mark (s.node k) ≡ OnPath k
  pub found : (x k : ℕ) → s.mark x ≡ OnPath k → (k < s.depth) × (s.node k ≡ x)

-- what is known of the path and of the nodes that are done
pub record Sound (E : ℕ → ℕ → Type 0) (s : Stand) : Type 0 where
  pub path : IsPlaced s
  pub bounds : (f g : ℕ) → f < g → f < s.count → bound s f < bound s g
  pub first : bound s 0 ≡ 0
  pub last : (f : ℕ) → s.count ≤ f → bound s f ≡ s.depth
  pub edge_bounds : (f g : ℕ) → f ≤ g → edge_bound s f ≤ edge_bound s g
  pub edge_last : (f : ℕ) → s.count ≤ f → edge_bound s f ≡ s.pending
  pub joined : (f a b : ℕ) → f < s.count → a < bound s (f + 1) → bound s f ≤ b → b < s.depth → Joined E (s.node a) (s.node b)
  pub sources : (f k : ℕ) → f < s.count → edge_bound s f ≤ k → k < edge_bound s (f + 1) → (a : ℕ) × IsSource E s f (s.target k) a
  pub cycles : (f a : ℕ) → f < s.count → (s.component f).cyclic ≡ true → Within s f a → Reaches E (s.node a) (s.node a)
  pub closed : (x y : ℕ) → IsDone (s.mark x) → E x y → IsDone (s.mark y)
  pub cyclic : (x : ℕ) → s.mark x ≡ Done true → Reaches E x x
  pub acyclic : (x : ℕ) → s.mark x ≡ Done false → Reaches E x x → ⊥

-- a target that is still to be followed from a component
pub record IsPending (s : Stand) (f y k : ℕ) : Type 0 where
  pub above : edge_bound s f ≤ k
  pub below : k < edge_bound s (f + 1)
  pub is : s.target k ≡ y

-- the target lies in the same component, which is marked as cyclic then, or in a later one
pub record LiesAt (s : Stand) (f y b : ℕ) : Type 0 where
  pub marked : s.mark y ≡ OnPath b
  pub above : bound s f ≤ b
  pub cyclic : b < bound s (f + 1) → (s.component f).cyclic ≡ true

abbrev pub Settled : Stand → ℕ → ℕ → Type 0
Settled s f y = IsDone (s.mark y) ⊎ ((b : ℕ) × LiesAt s f y b)

abbrev pub Known : Stand → ℕ → ℕ → Type 0
Known s f y = ((k : ℕ) × IsPending s f y k) ⊎ Settled s f y

-- each edge from the path is pending, or leads where it may
abbrev pub AllKnown : (ℕ → ℕ → Type 0) → Stand → Type 0
AllKnown E s = (f a y : ℕ) → f < s.count → Within s f a → E (s.node a) y → Known s f y

-- the same but for edges from the last component to one node
abbrev pub KnownBut : (ℕ → ℕ → Type 0) → Stand → ℕ → Type 0
KnownBut E s v = (f a y : ℕ) → f < s.count → Within s f a → E (s.node a) y → Known s f y ⊎ ((f + 1 ≡ s.count) × (y ≡ v))

-- an edge leads to the node from the last component, where there is one
abbrev pub IsLed : (ℕ → ℕ → Type 0) → Stand → ℕ → Type 0
IsLed E s v = (f : ℕ) → f + 1 ≡ s.count → (a : ℕ) × IsSource E s f v a

abbrev pub seen : Search → Stand
seen s = stand s.marks.items s.nodes.items s.edges.items s.components.items

pub record Holds (graph : Graph) (s : Search) : Type 0 where
  pub nodes : length s.marks.items ≡ length graph
  pub sound : Sound (Edge graph) (seen s)
  pub known : AllKnown (Edge graph) (seen s)

pub record HoldsBut (graph : Graph) (s : Search) (v : ℕ) : Type 0 where
  pub nodes : length s.marks.items ≡ length graph
  pub sound : Sound (Edge graph) (seen s)
  pub known : KnownBut (Edge graph) (seen s) v
  pub led : IsLed (Edge graph) (seen s) v

-- ---- steps

pub record Enters (graph : Graph) (v : ℕ) (old new : Search) : Type 0 where
  pub marks : new.marks.items ≡ slice_set old.marks.items v (OnPath (length old.nodes.items))
  pub nodes : new.nodes.items ≡ old.nodes.items ++ v ∷ []
  pub edges : new.edges.items ≡ old.edges.items ++ targets graph v
  pub components : new.components.items ≡ old.components.items ++ end old.nodes.items old.edges.items ∷ []

-- the component in which the path ends has no pending target
abbrev pub IsSpent : Search → Type 0
IsSpent s = (f : ℕ) → f + 1 ≡ length s.components.items → length s.edges.items ≤ edge_bound (seen s) f

pub record Takes (old new : Search) (v : ℕ) : Type 0 where
  pub marks : new.marks ≡ old.marks
  pub nodes : new.nodes ≡ old.nodes
  pub edges : old.edges.items ≡ new.edges.items ++ v ∷ []
  pub components : new.components ≡ old.components
  pub fresh : (f : ℕ) → f + 1 ≡ length old.components.items → edge_bound (seen old) f ≤ length new.edges.items

abbrev pub as_cyclic : Component → Component
as_cyclic c = record c { cyclic = true }

pub record Merges (old new : Search) : Type 0 where
  pub marks : new.marks ≡ old.marks
  pub nodes : new.nodes ≡ old.nodes
  pub edges : new.edges ≡ old.edges
  pub components : (f : ℕ) → f + 2 ≡ length old.components.items
      → new.components.items ≡ slice_set (take (f + 1) old.components.items) f (as_cyclic ((seen old).component f))

-- the nodes that stood on the path from one place to another are done, and others are marked as before
pub record LeavesMarks (start stop : ℕ) (cyclic : Bool) (old new : ℕ → Mark) : Type 0 where
  pub gone : (x k : ℕ) → old x ≡ OnPath k → start ≤ k → k < stop → new x ≡ Done cyclic
  pub kept : (x : ℕ) → ((k : ℕ) → old x ≡ OnPath k → start ≤ k → k < stop → ⊥) → new x ≡ old x

pub record Leaves (old new : Search) : Type 0 where
  pub count : length new.marks.items ≡ length old.marks.items
  pub marks : (f : ℕ) → f + 1 ≡ length old.components.items
      → LeavesMarks (bound (seen old) f) (length old.nodes.items) ((seen old).component f).cyclic (seen old).mark (seen new).mark
  pub nodes : (f : ℕ) → f + 1 ≡ length old.components.items → new.nodes.items ≡ take (bound (seen old) f) old.nodes.items
  pub edges : new.edges ≡ old.edges
  pub components : (f : ℕ) → f + 1 ≡ length old.components.items → new.components.items ≡ take f old.components.items

-- ---- the work that is left: to enter the nodes that are unseen, and to leave the components

abbrev pub mark_work : Mark → List ℕ → ℕ
mark_work Unseen ts = length ts + 2
mark_work (OnPath k) ts = 0
mark_work (Done c) ts = 0

abbrev pub marks_work : List Mark → Graph → ℕ
marks_work [] graph = 0
marks_work (m ∷ ms) [] = 0
marks_work (m ∷ ms) (targets ∷ graph) = mark_work m targets.items + marks_work ms graph

abbrev pub work : Graph → Search → ℕ
work graph s = marks_work s.marks.items graph + length s.edges.items + length s.components.items

-- no node is unseen that was seen
abbrev pub Sees : Search → Search → Type 0
Sees old new = (x : ℕ) → slice_index_or new.marks.items x (Done false) ≡ Unseen → slice_index_or old.marks.items x (Done false) ≡ Unseen

-- ---- the beginning and the end

pub record IsBegun (count : ℕ) (s : Search) : Type 0 where
  pub marks : s.marks.items ≡ replicate count Unseen
  pub nodes : s.nodes.items ≡ []
  pub edges : s.edges.items ≡ []
  pub components : s.components.items ≡ []

abbrev pub is_cyclic_mark : Mark → Bool
is_cyclic_mark (Done cyclic) = cyclic
is_cyclic_mark _ = false
