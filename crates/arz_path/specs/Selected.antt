-- What a query selects (RFC 9535, section 2).
use Rattle.std.specs.Prelude.{ℕ, suc, ◌-◌, ◌%◌, ◌==◌, ◌&&◌, not, min, ℤ, pos, negsuc, List, [], ◌∷◌, ◌++◌, map, filter, reverse, length, Bool, true, false, nat_lt, nat_le, if◌then◌else◌, Option, Some, None, option_and_then, slice_get, Result, Ok, Err}
use Rattle.std.specs.List.{enumerate_from, flat_map, list_all, list_any}
use Rattle.std.specs.Option.{IsSome}
use Rattle.std.specs.Ordering.{int_eq}
use Rattle.std.specs.Str.{bytes_eq}
use Rattle.arz_json.specs.Look.{text_in}
use Rattle.arz_json.specs.declared.tree.Json.{Json}
use Rattle.arz_json.specs.declared.tree.Json.TheVariants.{Null as NullTree, Flag as FlagTree, Int as IntTree, Text as TextTree}
use Rattle.arz_rx.specs.Patterns.{Told}
use Rattle.arz_rx.specs.Mapping.{mapped}
use Rattle.arz_query.specs.declared.query.Slice.{Slice}
use Rattle.arz_query.specs.declared.query.Start.{Start}
use Rattle.arz_query.specs.declared.query.Start.TheVariants.{Root, Current}
use Rattle.arz_query.specs.declared.query.Segment.{Segment}
use Rattle.arz_query.specs.declared.query.Selector.{Selector}
use Rattle.arz_query.specs.declared.query.Test.{Test}
use Rattle.arz_query.specs.declared.query.Operand.{Operand}
use Rattle.arz_query.specs.declared.query.Operand.TheOpen.{Segment-F, Selector-F, Test-F, Operand-F}
use Rattle.arz_query.specs.declared.query.Operand.TheFolds.{fold-Segment, fold-Selector, fold-Test, fold-Operand}
use Rattle.arz_json.specs.declared.place.Token.{Token}
use Rattle.arz_json.specs.declared.place.Token.TheVariants.{Name, Index}
use Rattle.arz_path.specs.declared.fault.SelectFault.{SelectFault}
use Rattle.arz_path.specs.declared.fault.SelectFault.TheVariants.{TooWide}
use Rattle.arz_path.specs.Outcome.{Outcome, given, wide, untold, and_then, outcome_map, each, parts}
use Rattle.arz_path.specs.Tree.{Node, items_of, item_child, children, preorder}
use Rattle.arz_path.specs.Values.{compared, length_of}

-- the longest list of places after a segment
abbrev pub widest : ℕ
widest = 1000000

-- a list of nodes, unless it is too wide
abbrev pub bounded : List Node → Result (List Node) SelectFault
bounded ns = if nat_lt widest (length ns) then Err TooWide else Ok ns

-- such an answer as an outcome: nothing of it is untold, and TooWide is the only fault that is meant
abbrev pub told_of : {X : Type 0} → Result X SelectFault → Outcome X
told_of (Ok x) = given x
told_of (Err e) = wide

-- a list of nodes, unless it is too wide, as an outcome
abbrev pub limited : List Node → Outcome (List Node)
limited ns = told_of (bounded ns)

-- ---- one selector at one node

-- children of a node as nodes of the whole tree
abbrev pub below_node : Node → List (Token × Json) → List Node
below_node n cs = map (λ c. (n.0 ++ c.0 ∷ [], c.1)) cs

-- 2.3.1
abbrev pub is_name : List ℕ → Token → Bool
is_name k (Name s) = bytes_eq s k
is_name k (Index i) = false

-- 2.3.3: the index in a list of n that i names; n where it names none
abbrev pub index_in : ℕ → ℤ → ℕ
index_in n (pos k) = k
index_in n (negsuc k) = if nat_lt k n then n - suc k else n

abbrev pub indexed_at : ℕ → Option Json → List (Token × Json)
indexed_at at None = []
indexed_at at (Some j) = (Index at, j) ∷ []

abbrev pub indexed : ℤ → List Json → List (Token × Json)
indexed i js = let at = index_in (length js) i in indexed_at at (slice_get js at)

-- 2.3.4.2.2: the first index that isn't before i
abbrev pub up_to : ℕ → ℤ → ℕ
up_to n (pos k) = min k n
up_to n (negsuc k) = n - suc k

-- the first index after i
abbrev pub past : ℕ → ℤ → ℕ
past n (pos k) = min (suc k) n
past n (negsuc k) = n - k

abbrev pub bound : (ℤ → ℕ) → ℕ → Option ℤ → ℕ
bound f n None = n
bound f n (Some i) = f i

-- whether a slice takes item i of n: forward from the start until before the end, or backward
abbrev pub is_taken : Slice → ℕ → ℤ → ℕ → Bool
is_taken s n (pos step) i =
    let first = bound (up_to n) 0 s.start in
    nat_le first i && nat_lt i (bound (up_to n) n s.end) && ((i - first) % step == 0)
is_taken s n (negsuc k) i =
    let first = bound (past n) n s.start in
    nat_lt i first && nat_le (bound (past n) 0 s.end) i && ((first - suc i) % suc k == 0)

abbrev pub in_direction : {X : Type 0} → ℤ → List X → List X
in_direction (pos k) xs = xs
in_direction (negsuc k) xs = reverse xs

-- 2.3.4.2: a step of 0 selects nothing
abbrev pub sliced : Slice → List Json → List (Token × Json)
sliced s js =
    if int_eq s.step (pos 0) then []
    else in_direction s.step (map item_child (filter (λ p. is_taken s (length js) s.step p.0) (enumerate_from 0 js)))

-- ---- what the parts of a query mean

-- what a query goes by: what is told of patterns, and the root of the tree
pub record Setting : Type 0 where
  pub told : List ℕ → List ℕ → Told
  pub root : Json

abbrev pub SegmentMeaning : Type 0
SegmentMeaning = Setting → List Node → Outcome (List Node)

-- the children of a value that are selected, each with its step
abbrev pub SelectorMeaning : Type 0
SelectorMeaning = Setting → Json → Outcome (List (Token × Json))

-- by the current node
abbrev pub TestMeaning : Type 0
TestMeaning = Setting → Json → Outcome Bool

-- None is Nothing
abbrev pub OperandMeaning : Type 0
OperandMeaning = Setting → Json → Outcome (Option Json)

-- segment after segment (2.1.2)
abbrev pub run : List SegmentMeaning → SegmentMeaning
run [] setting ns = given ns
run (s ∷ ss) setting ns = and_then (run ss setting) (s setting ns)

abbrev pub started : Start → Setting → Json → Json
started Root setting current = setting.root
started Current setting current = current

-- the nodes of a query inside a filter
abbrev pub inner : Start → List SegmentMeaning → Setting → Json → Outcome (List Node)
inner start ss setting current = run ss setting (([], started start setting current) ∷ [])

-- the value of the only node, else Nothing (2.3.5.1, 2.4.8)
abbrev pub only : List Node → Option Json
only (n ∷ []) = Some n.1
only _ = None

abbrev pub is_some_node : List Node → Bool
is_some_node [] = false
is_some_node (n ∷ ns) = true

abbrev pub count_of : List Node → Option Json
count_of ns = Some (IntTree (pos (length ns)))

-- whether a text matches a pattern; false where the pattern has no reading (2.4.6, 2.4.7)
abbrev pub answered : Told → Outcome Bool
answered None = untold
answered (Some None) = given false
answered (Some (Some b)) = given b

-- false where one isn't a text
abbrev pub searched : (List ℕ → List ℕ → Told) → Bool → Option (List ℕ) → Option (List ℕ) → Outcome Bool
searched told whole (Some text) (Some pattern) = answered (told (mapped whole pattern) text)
searched told whole (Some text) None = given false
searched told whole None p = given false

abbrev pub searched_in : (List ℕ → List ℕ → Told) → Bool → Option Json → Option Json → Outcome Bool
searched_in told whole x y = searched told whole (option_and_then text_in x) (option_and_then text_in y)

-- 2.3.5.2.2 and 2.4
abbrev pub operand_step : Operand-F OperandMeaning SegmentMeaning SelectorMeaning TestMeaning → OperandMeaning
operand_step Operand-F.Null setting current = given (Some NullTree)
operand_step (Operand-F.Flag b) setting current = given (Some (FlagTree b))
operand_step (Operand-F.Int z) setting current = given (Some (IntTree z))
operand_step (Operand-F.Text s) setting current = given (Some (TextTree s))
operand_step (Operand-F.Query start ss) setting current = outcome_map only (inner start ss setting current)
operand_step (Operand-F.Length o) setting current = outcome_map length_of (o setting current)
operand_step (Operand-F.Count start ss) setting current = outcome_map count_of (inner start ss setting current)
operand_step (Operand-F.Value start ss) setting current = outcome_map only (inner start ss setting current)

-- one operand, then the other
abbrev pub pair_of : OperandMeaning → OperandMeaning → Setting → Json → Outcome (Option Json × Option Json)
pair_of a b setting current = and_then (λ x. outcome_map (λ y. (x, y)) (b setting current)) (a setting current)

-- whether a text matches a pattern, all of it where whole is true (2.4.6, 2.4.7)
abbrev pub matched : Bool → OperandMeaning → OperandMeaning → TestMeaning
matched whole text pattern setting current = and_then (λ p. searched_in setting.told whole p.0 p.1) (pair_of text pattern setting current)

-- 2.3.5.2
abbrev pub test_step : Test-F OperandMeaning SegmentMeaning SelectorMeaning TestMeaning → TestMeaning
test_step (Test-F.Any ts) setting current = outcome_map (list_any (λ b. b)) (parts (λ t. t setting current) ts)
test_step (Test-F.All ts) setting current = outcome_map (list_all (λ b. b)) (parts (λ t. t setting current) ts)
test_step (Test-F.Not t) setting current = outcome_map not (t setting current)
test_step (Test-F.Exists start ss) setting current = outcome_map is_some_node (inner start ss setting current)
test_step (Test-F.Compare a op b) setting current = outcome_map (λ p. compared op p.0 p.1) (pair_of a b setting current)
test_step (Test-F.Match a b) setting current = matched true a b setting current
test_step (Test-F.Search a b) setting current = matched false a b setting current

-- a child, where it is to be kept
abbrev pub kept : Token × Json → Bool → List (Token × Json)
kept c b = if b then c ∷ [] else []

-- 2.3
abbrev pub selector_step : Selector-F OperandMeaning SegmentMeaning SelectorMeaning TestMeaning → SelectorMeaning
selector_step (Selector-F.Name k) setting j = given (filter (λ c. is_name k c.0) (children j))
selector_step Selector-F.Wildcard setting j = given (children j)
selector_step (Selector-F.Index i) setting j = given (indexed i (items_of j))
selector_step (Selector-F.Slice s) setting j = given (sliced s (items_of j))
selector_step (Selector-F.Filter t) setting j = each (λ c. outcome_map (kept c) (t setting c.1)) (children j)

-- each node in order, each selector in order
abbrev pub selected_at : List SelectorMeaning → SegmentMeaning
selected_at ss setting ns = and_then limited (each (λ n. each (λ s. outcome_map (below_node n) (s setting n.1)) ss) ns)

-- 2.5
abbrev pub segment_step : Segment-F OperandMeaning SegmentMeaning SelectorMeaning TestMeaning → SegmentMeaning
segment_step (Segment-F.Child ss) setting ns = selected_at ss setting ns
segment_step (Segment-F.Descendant ss) setting ns = selected_at ss setting (flat_map preorder ns)

abbrev pub segment_meaning : Segment → SegmentMeaning
segment_meaning = fold-Segment OperandMeaning SegmentMeaning SelectorMeaning TestMeaning operand_step segment_step selector_step test_step

abbrev pub selector_meaning : Selector → SelectorMeaning
selector_meaning = fold-Selector OperandMeaning SegmentMeaning SelectorMeaning TestMeaning operand_step segment_step selector_step test_step

abbrev pub test_meaning : Test → TestMeaning
test_meaning = fold-Test OperandMeaning SegmentMeaning SelectorMeaning TestMeaning operand_step segment_step selector_step test_step

abbrev pub operand_meaning : Operand → OperandMeaning
operand_meaning = fold-Operand OperandMeaning SegmentMeaning SelectorMeaning TestMeaning operand_step segment_step selector_step test_step

-- ---- a whole query

abbrev pub root_node : Setting → List Node
root_node setting = ([], setting.root) ∷ []

-- the nodes that it selects
unfoldable pub selected : List Segment → Setting → Outcome (List Node)
selected vs setting = run (map segment_meaning vs) setting (root_node setting)

abbrev pub place_of : Node → List Token
place_of n = n.0

-- their places
unfoldable pub places : List Segment → Setting → Outcome (List (List Token))
places vs setting = outcome_map (map place_of) (selected vs setting)

-- whether there is one
unfoldable pub is_any : List Segment → Setting → Outcome Bool
is_any vs setting = outcome_map is_some_node (selected vs setting)

-- ---- where nothing is left open

-- something is told of each pattern and text
abbrev pub TellsAll : Setting → Type 0
TellsAll setting = (pattern text : List ℕ) → IsSome (setting.told pattern text)

-- it doesn't stand on a pattern of which nothing is told
abbrev pub IsTold : {X : Type 0} → Outcome X → Type 0
IsTold (given x) = Unit {0}
IsTold wide = Unit {0}
IsTold untold = ⊥
