-- Which nodes of a directed graph lie on a cycle.
use Rattle.std.specs.Prelude.{ℕ, List, [], Option, Some, None, slice_get}
use Rattle.std.specs.List.{Contains}
use Rattle.std.specs.declared.vec.Vec.{Vec}
use Rattle.std.specs.declared.alloc.Global.{Global}

-- one thing reaches another along one or more edges
pub data Reaches {A : Type 0} (Edge : A → A → Type 0) : A → A → Type 0 where
  edge : {i j : A} → Edge i j → Reaches Edge i j
  onward : {i j k : A} → Edge i j → Reaches Edge j k → Reaches Edge i k

-- the nodes are the numbers of the lists, and each list has the targets of its node's edges
abbrev pub Graph : Type 0
Graph = List (Vec ℕ Global)

abbrev pub targets_in : Option (Vec ℕ Global) → List ℕ
targets_in None = []
targets_in (Some targets) = targets.items

-- the targets of a node's edges; a number that is no node has none
abbrev pub targets : Graph → ℕ → List ℕ
targets graph i = targets_in (slice_get graph i)

-- a number leads to those that are listed for it
abbrev pub Leads : (ℕ → List ℕ) → ℕ → ℕ → Type 0
Leads next i j = Contains (next i) j

abbrev pub Edge : Graph → ℕ → ℕ → Type 0
Edge graph i j = Leads (targets graph) i j

-- the node lies on a cycle: it reaches itself
abbrev pub IsCyclic : Graph → ℕ → Type 0
IsCyclic graph i = Reaches (Edge graph) i i
