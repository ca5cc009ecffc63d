-- What each part of a query means, a level at a time.
use Rattle.std.proofs.Common.{◌≡◌, ℕ, ℤ, List, Bool, map, sym, ap, ◌∙◌}
use Rattle.arz_query.specs.declared.query.Segment.{Segment}
use Rattle.arz_query.specs.declared.query.Segment.TheVariants.{Child, Descendant}
use Rattle.arz_query.specs.declared.query.Selector.{Selector}
use Rattle.arz_query.specs.declared.query.Selector.TheVariants.{Name, Wildcard, Index, Slice as SliceOf, Filter}
use Rattle.arz_query.specs.declared.query.Slice.{Slice}
use Rattle.arz_query.specs.declared.query.Start.{Start}
use Rattle.arz_query.specs.declared.query.Comparison.{Comparison}
use Rattle.arz_query.specs.declared.query.Test.{Test}
use Rattle.arz_query.specs.declared.query.Test.TheVariants.{Any, All, Not, Exists, Compare, Match, Search}
use Rattle.arz_query.specs.declared.query.Operand.{Operand}
use Rattle.arz_query.specs.declared.query.Operand.TheVariants.{Null, Flag, Int, Text, Query, Length, Count, Value}
use Rattle.arz_query.specs.declared.query.Operand.TheOpen.{Segment-F, Selector-F, Test-F, Operand-F}
use Rattle.arz_query.specs.declared.query.Operand.TheFolds.{fold-roll-Segment, fold-roll-Selector, fold-roll-Test, fold-roll-Operand}
use Rattle.arz_query.specs.declared.query.Operand.TheViews as views
use Rattle.arz_json.specs.declared.tree.Json.{Json}
use Rattle.arz_path.specs.Tree.{Node}
use Rattle.arz_path.specs.Selected.{Setting, OperandMeaning, SegmentMeaning, SelectorMeaning, TestMeaning, operand_step, segment_step, selector_step, test_step, segment_meaning, selector_meaning, test_meaning, operand_meaning}

pub meaning-Child : (ss : List Selector) (setting : Setting) (ns : List Node) → segment_meaning (Child ss) setting ns ≡ segment_step (Segment-F.Child (map selector_meaning ss)) setting ns
meaning-Child ss setting ns = ap (λ (f : SegmentMeaning). f setting ns) (ap segment_meaning (sym (views.rolls-Child ss)) ∙ fold-roll-Segment _ _ _ _ operand_step segment_step selector_step test_step (Segment-F.Child ss))

pub meaning-Descendant : (ss : List Selector) (setting : Setting) (ns : List Node) → segment_meaning (Descendant ss) setting ns ≡ segment_step (Segment-F.Descendant (map selector_meaning ss)) setting ns
meaning-Descendant ss setting ns = ap (λ (f : SegmentMeaning). f setting ns) (ap segment_meaning (sym (views.rolls-Descendant ss)) ∙ fold-roll-Segment _ _ _ _ operand_step segment_step selector_step test_step (Segment-F.Descendant ss))

pub meaning-Name : (k : List ℕ) (setting : Setting) (j : Json) → selector_meaning (Name k) setting j ≡ selector_step (Selector-F.Name k) setting j
meaning-Name k setting j = ap (λ (f : SelectorMeaning). f setting j) (ap selector_meaning (sym (views.rolls-Name k)) ∙ fold-roll-Selector _ _ _ _ operand_step segment_step selector_step test_step (Selector-F.Name k))

pub meaning-Wildcard : (setting : Setting) (j : Json) → selector_meaning Wildcard setting j ≡ selector_step Selector-F.Wildcard setting j
meaning-Wildcard setting j = ap (λ (f : SelectorMeaning). f setting j) (ap selector_meaning (sym views.rolls-Wildcard) ∙ fold-roll-Selector _ _ _ _ operand_step segment_step selector_step test_step Selector-F.Wildcard)

pub meaning-Index : (i : ℤ) (setting : Setting) (j : Json) → selector_meaning (Index i) setting j ≡ selector_step (Selector-F.Index i) setting j
meaning-Index i setting j = ap (λ (f : SelectorMeaning). f setting j) (ap selector_meaning (sym (views.rolls-Index i)) ∙ fold-roll-Selector _ _ _ _ operand_step segment_step selector_step test_step (Selector-F.Index i))

pub meaning-Slice : (s : Slice) (setting : Setting) (j : Json) → selector_meaning (SliceOf s) setting j ≡ selector_step (Selector-F.Slice s) setting j
meaning-Slice s setting j = ap (λ (f : SelectorMeaning). f setting j) (ap selector_meaning (sym (views.rolls-Slice s)) ∙ fold-roll-Selector _ _ _ _ operand_step segment_step selector_step test_step (Selector-F.Slice s))

pub meaning-Filter : (t : Test) (setting : Setting) (j : Json) → selector_meaning (Filter t) setting j ≡ selector_step (Selector-F.Filter (test_meaning t)) setting j
meaning-Filter t setting j = ap (λ (f : SelectorMeaning). f setting j) (ap selector_meaning (sym (views.rolls-Filter t)) ∙ fold-roll-Selector _ _ _ _ operand_step segment_step selector_step test_step (Selector-F.Filter t))

pub meaning-Any : (ts : List Test) (setting : Setting) (current : Json) → test_meaning (Any ts) setting current ≡ test_step (Test-F.Any (map test_meaning ts)) setting current
meaning-Any ts setting current = ap (λ (f : TestMeaning). f setting current) (ap test_meaning (sym (views.rolls-Any ts)) ∙ fold-roll-Test _ _ _ _ operand_step segment_step selector_step test_step (Test-F.Any ts))

pub meaning-All : (ts : List Test) (setting : Setting) (current : Json) → test_meaning (All ts) setting current ≡ test_step (Test-F.All (map test_meaning ts)) setting current
meaning-All ts setting current = ap (λ (f : TestMeaning). f setting current) (ap test_meaning (sym (views.rolls-All ts)) ∙ fold-roll-Test _ _ _ _ operand_step segment_step selector_step test_step (Test-F.All ts))

pub meaning-Not : (t : Test) (setting : Setting) (current : Json) → test_meaning (Not t) setting current ≡ test_step (Test-F.Not (test_meaning t)) setting current
meaning-Not t setting current = ap (λ (f : TestMeaning). f setting current) (ap test_meaning (sym (views.rolls-Not t)) ∙ fold-roll-Test _ _ _ _ operand_step segment_step selector_step test_step (Test-F.Not t))

pub meaning-Exists : (s : Start) (ss : List Segment) (setting : Setting) (current : Json) → test_meaning (Exists s ss) setting current ≡ test_step (Test-F.Exists s (map segment_meaning ss)) setting current
meaning-Exists s ss setting current = ap (λ (f : TestMeaning). f setting current) (ap test_meaning (sym (views.rolls-Exists s ss)) ∙ fold-roll-Test _ _ _ _ operand_step segment_step selector_step test_step (Test-F.Exists s ss))

pub meaning-Compare : (x : Operand) (op : Comparison) (y : Operand) (setting : Setting) (current : Json) → test_meaning (Compare x op y) setting current ≡ test_step (Test-F.Compare (operand_meaning x) op (operand_meaning y)) setting current
meaning-Compare x op y setting current = ap (λ (f : TestMeaning). f setting current) (ap test_meaning (sym (views.rolls-Compare x op y)) ∙ fold-roll-Test _ _ _ _ operand_step segment_step selector_step test_step (Test-F.Compare x op y))

pub meaning-Match : (x : Operand) (y : Operand) (setting : Setting) (current : Json) → test_meaning (Match x y) setting current ≡ test_step (Test-F.Match (operand_meaning x) (operand_meaning y)) setting current
meaning-Match x y setting current = ap (λ (f : TestMeaning). f setting current) (ap test_meaning (sym (views.rolls-Match x y)) ∙ fold-roll-Test _ _ _ _ operand_step segment_step selector_step test_step (Test-F.Match x y))

pub meaning-Search : (x : Operand) (y : Operand) (setting : Setting) (current : Json) → test_meaning (Search x y) setting current ≡ test_step (Test-F.Search (operand_meaning x) (operand_meaning y)) setting current
meaning-Search x y setting current = ap (λ (f : TestMeaning). f setting current) (ap test_meaning (sym (views.rolls-Search x y)) ∙ fold-roll-Test _ _ _ _ operand_step segment_step selector_step test_step (Test-F.Search x y))

pub meaning-Null : (setting : Setting) (current : Json) → operand_meaning Null setting current ≡ operand_step Operand-F.Null setting current
meaning-Null setting current = ap (λ (f : OperandMeaning). f setting current) (ap operand_meaning (sym views.rolls-Null) ∙ fold-roll-Operand _ _ _ _ operand_step segment_step selector_step test_step Operand-F.Null)

pub meaning-Flag : (b : Bool) (setting : Setting) (current : Json) → operand_meaning (Flag b) setting current ≡ operand_step (Operand-F.Flag b) setting current
meaning-Flag b setting current = ap (λ (f : OperandMeaning). f setting current) (ap operand_meaning (sym (views.rolls-Flag b)) ∙ fold-roll-Operand _ _ _ _ operand_step segment_step selector_step test_step (Operand-F.Flag b))

pub meaning-Int : (z : ℤ) (setting : Setting) (current : Json) → operand_meaning (Int z) setting current ≡ operand_step (Operand-F.Int z) setting current
meaning-Int z setting current = ap (λ (f : OperandMeaning). f setting current) (ap operand_meaning (sym (views.rolls-Int z)) ∙ fold-roll-Operand _ _ _ _ operand_step segment_step selector_step test_step (Operand-F.Int z))

pub meaning-Text : (t : List ℕ) (setting : Setting) (current : Json) → operand_meaning (Text t) setting current ≡ operand_step (Operand-F.Text t) setting current
meaning-Text t setting current = ap (λ (f : OperandMeaning). f setting current) (ap operand_meaning (sym (views.rolls-Text t)) ∙ fold-roll-Operand _ _ _ _ operand_step segment_step selector_step test_step (Operand-F.Text t))

pub meaning-Query : (s : Start) (ss : List Segment) (setting : Setting) (current : Json) → operand_meaning (Query s ss) setting current ≡ operand_step (Operand-F.Query s (map segment_meaning ss)) setting current
meaning-Query s ss setting current = ap (λ (f : OperandMeaning). f setting current) (ap operand_meaning (sym (views.rolls-Query s ss)) ∙ fold-roll-Operand _ _ _ _ operand_step segment_step selector_step test_step (Operand-F.Query s ss))

pub meaning-Length : (o : Operand) (setting : Setting) (current : Json) → operand_meaning (Length o) setting current ≡ operand_step (Operand-F.Length (operand_meaning o)) setting current
meaning-Length o setting current = ap (λ (f : OperandMeaning). f setting current) (ap operand_meaning (sym (views.rolls-Length o)) ∙ fold-roll-Operand _ _ _ _ operand_step segment_step selector_step test_step (Operand-F.Length o))

pub meaning-Count : (s : Start) (ss : List Segment) (setting : Setting) (current : Json) → operand_meaning (Count s ss) setting current ≡ operand_step (Operand-F.Count s (map segment_meaning ss)) setting current
meaning-Count s ss setting current = ap (λ (f : OperandMeaning). f setting current) (ap operand_meaning (sym (views.rolls-Count s ss)) ∙ fold-roll-Operand _ _ _ _ operand_step segment_step selector_step test_step (Operand-F.Count s ss))

pub meaning-Value : (s : Start) (ss : List Segment) (setting : Setting) (current : Json) → operand_meaning (Value s ss) setting current ≡ operand_step (Operand-F.Value s (map segment_meaning ss)) setting current
meaning-Value s ss setting current = ap (λ (f : OperandMeaning). f setting current) (ap operand_meaning (sym (views.rolls-Value s ss)) ∙ fold-roll-Operand _ _ _ _ operand_step segment_step selector_step test_step (Operand-F.Value s ss))

pub ruleset meanings = (meaning-Child, meaning-Descendant, meaning-Name, meaning-Wildcard, meaning-Index, meaning-Slice, meaning-Filter, meaning-Any, meaning-All, meaning-Not, meaning-Exists, meaning-Compare, meaning-Match, meaning-Search, meaning-Null, meaning-Flag, meaning-Int, meaning-Text, meaning-Query, meaning-Length, meaning-Count, meaning-Value)
