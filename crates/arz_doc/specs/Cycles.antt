-- Workflows that depend on themselves (Arazzo 1.0.1, section 4.6.4).
use Rattle.std.specs.Prelude.{ℕ, zero, suc, List, [], ◌∷◌, ◌++◌, ◌↔◌, length, codes, Bool, false, IsTrue, Option, Some, None, option_and_then, if◌then◌else◌, slice_get, slice_index_or}
use Rattle.std.specs.List.{filter_map}
use Rattle.std.specs.BTreeMap.{BTreeMap, get_by}
use Rattle.std.specs.Cmp.Lexicographic.{slice_cmp}
use Rattle.std.specs.Ordering.{nat_cmp}
use denote.Ref.{Bor}
use Rattle.arz_json.specs.declared.tree.Json.{Json}
use Rattle.arz_json.specs.declared.place.Token.{Token}
use Rattle.arz_json.specs.declared.place.Token.TheVariants.{Name, Index}
use Rattle.arz_json.specs.Look.{text_in, items_at}
use Rattle.arz_rules.specs.Place.{under}
use Rattle.arz_rules.specs.Sets.{is_text}
use Rattle.arz_rules.specs.Sites.{Check, text_named}
use Rattle.arz_graph.specs.Reaches.{Reaches, Leads}
use Rattle.arz_doc.specs.declared.cycles.Cycles.{Cycles}

-- the workflows of a description, which are numbered from 0
abbrev pub numbered : Json → List Json
numbered root = items_at (codes "workflows") root

-- the number of the first workflow with this `workflowId`, where some are numbered from i on
abbrev pub number_from : ℕ → List Json → List ℕ → Option ℕ
number_from i [] id = None
number_from i (w ∷ ws) id = if is_text (text_named (codes "workflowId") w) id then Some i else number_from (suc i) ws id

-- the numbers of the workflows that the texts of a workflow's `dependsOn` name
abbrev pub named_by : (List ℕ → Option ℕ) → Json → List ℕ
named_by find w = filter_map (λ j. option_and_then find (text_in j)) (items_at (codes "dependsOn") w)

abbrev pub dependencies_in : (List ℕ → Option ℕ) → Option Json → List ℕ
dependencies_in find None = []
dependencies_in find (Some w) = named_by find w

abbrev pub dependencies : Json → ℕ → List ℕ
dependencies root i = dependencies_in (number_from 0 (numbered root)) (slice_get (numbered root) i)

-- a workflow depends on another, and on itself, along one dependency or more
abbrev pub DependsOn : Json → ℕ → ℕ → Type 0
DependsOn root i j = Leads (dependencies root) i j

abbrev pub DependsOnItself : Json → ℕ → Type 0
DependsOnItself root i = Reaches (DependsOn root) i i

-- the test tells which workflows depend on themselves
pub record TellsCycles (root : Json) (is_cyclic : ℕ → Bool) : Type 0 where
  pub exact : (i : ℕ) → IsTrue (is_cyclic i) ↔ DependsOnItself root i

-- the `dependsOn` of each such workflow, of those whose numbers are below n
abbrev pub circular_below : (ℕ → Bool) → ℕ → List (List Token)
circular_below is_cyclic zero = []
circular_below is_cyclic (suc n) =
    circular_below is_cyclic n ++ (if is_cyclic n then (Index n ∷ Name (codes "dependsOn") ∷ []) ∷ [] else [])

abbrev pub circular : (ℕ → Bool) → Check
circular is_cyclic root = under (Name (codes "workflows")) (circular_below is_cyclic (length (numbered root)))

-- ---- for private clauses

abbrev pub number_in : BTreeMap (Bor (List ℕ)) ℕ → List ℕ → Option ℕ
number_in m q = get_by (λ k. slice_cmp nat_cmp q k.now) m

abbrev pub tells : Cycles → ℕ → Bool
tells c i = slice_index_or c.flags.items i false
