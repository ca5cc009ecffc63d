-- Where something is told of each pattern, each part of a query says something.
use Rattle.std.proofs.Common.{ℕ, Bool, true, false, cond, Ok, Err, List, [], ◌∷◌, ◌++◌, map, length, not, nat_lt, Option, Some, None, option_and_then, sym, subst}
use Rattle.std.specs.List.{flat_map}
use Rattle.std.specs.Option.{IsSome}
use Rattle.arz_json.specs.Look.{text_in}
use Rattle.arz_json.specs.declared.tree.Json.{Json}
use Rattle.arz_rx.specs.Patterns.{Told}
use Rattle.arz_rx.specs.Mapping.{mapped}
use Rattle.arz_query.specs.declared.query.Start.{Start}
use Rattle.arz_query.specs.declared.query.Segment.{Segment}
use Rattle.arz_query.specs.declared.query.Selector.{Selector}
use Rattle.arz_query.specs.declared.query.Test.{Test}
use Rattle.arz_query.specs.declared.query.Operand.{Operand}
use Rattle.arz_query.specs.declared.query.Operand.TheOpen.{Segment-F, Selector-F, Test-F, Operand-F}
use Rattle.arz_query.specs.declared.query.Operand.TheFolds.{ind-Segment, map-Segment, map-Selector, map-Test, map-Operand}
use Rattle.arz_query.specs.declared.query.Operand.TheViews as views
use Rattle.arz_path.specs.Outcome.{Outcome, given, wide, untold, and_then, outcome_map, each}
use Rattle.arz_path.specs.Tree.{Node, children, preorder}
use Rattle.arz_path.specs.Values.{length_of}
use Rattle.arz_path.specs.declared.fault.SelectFault.TheVariants.{TooWide}
use Rattle.arz_path.specs.Selected.{Setting, widest, told_of, started, run, kept, below_node, answered, searched, searched_in, pair_of, selected, segment_meaning, selector_meaning, test_meaning, operand_meaning, TellsAll, IsTold}
use Rattle.arz_path.specs.Spots.{grown}
use Rattle.arz_path.specs.Seen.{chosen, chosen_all, picked, kept_all, tested_all, found_all}
use Rattle.arz_path.proofs.Meanings.{meaning-Name, meaning-Wildcard, meaning-Index, meaning-Slice, meaning-Not, meaning-Compare, meaning-Match, meaning-Search, meaning-Null, meaning-Flag, meaning-Int, meaning-Text, meaning-Length}
use Rattle.arz_path.proofs.Parts.{segment-Child, segment-Descendant, selector-Filter, test-Any, test-All, test-Exists, operand-Query, operand-Value, operand-Count}

then_told : {X Y : Type 0} (f : X → Outcome Y) (o : Outcome X) → IsTold o → ((x : X) → IsTold (f x)) → IsTold (and_then f o)
then_told f (given x) h k = k x
then_told f wide h k = tt
then_told f untold h k = absurd h

map_told : {X Y : Type 0} (f : X → Y) (o : Outcome X) → IsTold o → IsTold (outcome_map f o)
map_told f (given x) h = tt
map_told f wide h = tt
map_told f untold h = absurd h

each_told : {X Y : Type 0} (f : X → Outcome (List Y)) → ((x : X) → IsTold (f x)) → (xs : List X) → IsTold (each f xs)
each_told f h [] = tt
each_told f h (x ∷ xs) = then_told (λ ys. outcome_map (λ more. ys ++ more) (each f xs)) (f x) (h x) (λ ys. map_told (λ more. ys ++ more) (each f xs) (each_told f h xs))

-- of parts of which each has a fact beside it
held_told : {X Y : Type 0} {Q : X → Type 0} (f : X → Outcome (List Y)) → ((e : (x : X) × Q x) → IsTold (f e.0)) → (es : List ((x : X) × Q x)) → IsTold (each f (map (λ e. e.0) es))
held_told f h [] = tt
held_told f h (e ∷ es) = then_told (λ ys. outcome_map (λ more. ys ++ more) (each f (map (λ e. e.0) es))) (f e.0) (h e) (λ ys. map_told (λ more. ys ++ more) (each f (map (λ e. e.0) es)) (held_told f h es))

grown_told : (o : Outcome (List Node)) → IsTold o → IsTold (grown [] o)
grown_told (given ns) h = of (nat_lt widest (length ns))
  where
    of : (b : Bool) → IsTold {X = List Node} (told_of (cond b (Err TooWide) (Ok ns)))
    of true = tt
    of false = tt
grown_told wide h = tt
grown_told untold h = absurd h

answered_told : (t : Told) → IsSome t → IsTold (answered t)
answered_told None h = absurd (cc)
answered_told (Some None) h = tt
answered_told (Some (Some b)) h = tt

module _ (setting : Setting) (tells : TellsAll setting) where
  searched_told : (whole : Bool) (a b : Option (List ℕ)) → IsTold (searched setting.told whole a b)
  searched_told whole (Some text) (Some pattern) = answered_told (setting.told (mapped whole pattern) text) (tells (mapped whole pattern) text)
  searched_told whole (Some text) None = tt
  searched_told whole None p = tt

  abbrev OfSegment : Segment → Type 0
  OfSegment g = (ns : List Node) → IsTold (segment_meaning g setting ns)

  abbrev OfSelector : Selector → Type 0
  OfSelector s = (j : Json) → IsTold (selector_meaning s setting j)

  abbrev OfTest : Test → Type 0
  OfTest t = (j : Json) → IsTold (test_meaning t setting j)

  abbrev OfOperand : Operand → Type 0
  OfOperand o = (j : Json) → IsTold (operand_meaning o setting j)

  abbrev HeldSegment : Type 0
  HeldSegment = (g : Segment) × OfSegment g

  abbrev HeldSelector : Type 0
  HeldSelector = (s : Selector) × OfSelector s

  abbrev HeldTest : Type 0
  HeldTest = (t : Test) × OfTest t

  abbrev HeldOperand : Type 0
  HeldOperand = (o : Operand) × OfOperand o

  chosen_told : (es : List HeldSelector) (n : Node) → IsTold (chosen setting (map (λ e. e.0) es) n)
  unfolding chosen picked
  chosen_told es n = held_told (λ s. outcome_map (below_node n) (selector_meaning s setting n.1)) (λ e. map_told (below_node n) (selector_meaning e.0 setting n.1) (e.1 n.1)) es

  all_told : (es : List HeldSelector) (ns : List Node) → IsTold (chosen_all setting (map (λ e. e.0) es) ns)
  unfolding chosen_all
  all_told es ns = each_told (chosen setting (map (λ e. e.0) es)) (chosen_told es) ns

  level_segment : (y : Segment-F HeldOperand HeldSegment HeldSelector HeldTest) →
      OfSegment (views.roll-Segment (map-Segment HeldOperand HeldSegment HeldSelector HeldTest Operand Segment Selector Test (λ e. e.0) (λ e. e.0) (λ e. e.0) (λ e. e.0) y))
  level_segment (Segment-F.Child es) = subst OfSegment (sym (views.rolls-Child (map (λ e. e.0) es)))
      (λ ns. subst IsTold (sym (segment-Child (map (λ e. e.0) es) setting ns)) (grown_told (chosen_all setting (map (λ e. e.0) es) ns) (all_told es ns)))
  level_segment (Segment-F.Descendant es) = subst OfSegment (sym (views.rolls-Descendant (map (λ e. e.0) es)))
      (λ ns. subst IsTold (sym (segment-Descendant (map (λ e. e.0) es) setting ns)) (grown_told (chosen_all setting (map (λ e. e.0) es) (flat_map preorder ns)) (all_told es (flat_map preorder ns))))

  kept_told : (t : Test) → OfTest t → (j : Json) → IsTold (kept_all setting t (children j))
  unfolding kept_all
  kept_told t h j = each_told (λ c. outcome_map (kept c) (test_meaning t setting c.1)) (λ c. map_told (kept c) (test_meaning t setting c.1) (h c.1)) (children j)

  level_selector : (y : Selector-F HeldOperand HeldSegment HeldSelector HeldTest) →
      OfSelector (views.roll-Selector (map-Selector HeldOperand HeldSegment HeldSelector HeldTest Operand Segment Selector Test (λ e. e.0) (λ e. e.0) (λ e. e.0) (λ e. e.0) y))
  level_selector (Selector-F.Name k) = subst OfSelector (sym (views.rolls-Name k)) (λ j. subst IsTold (sym (meaning-Name k setting j)) tt)
  level_selector Selector-F.Wildcard = subst OfSelector (sym views.rolls-Wildcard) (λ j. subst IsTold (sym (meaning-Wildcard setting j)) tt)
  level_selector (Selector-F.Index i) = subst OfSelector (sym (views.rolls-Index i)) (λ j. subst IsTold (sym (meaning-Index i setting j)) tt)
  level_selector (Selector-F.Slice s) = subst OfSelector (sym (views.rolls-Slice s)) (λ j. subst IsTold (sym (meaning-Slice s setting j)) tt)
  level_selector (Selector-F.Filter e) = subst OfSelector (sym (views.rolls-Filter e.0)) (λ j. subst IsTold (sym (selector-Filter e.0 setting j)) (kept_told e.0 e.1 j))

  run_told : (es : List HeldSegment) (ns : List Node) → IsTold (run (map segment_meaning (map (λ e. e.0) es)) setting ns)
  run_told [] ns = tt
  run_told (e ∷ es) ns = then_told (run (map segment_meaning (map (λ e. e.0) es)) setting) (segment_meaning e.0 setting ns) (e.1 ns) (run_told es)

  found_told : (es : List HeldSegment) (s : Start) (j : Json) → IsTold (found_all setting j s (map (λ e. e.0) es))
  unfolding found_all
  found_told es s j = run_told es (([], started s setting j) ∷ [])

  tests_told : (es : List HeldTest) (j : Json) → IsTold (tested_all setting j (map (λ e. e.0) es))
  unfolding tested_all
  tests_told es j = held_told (λ t. outcome_map (λ b. b ∷ []) (test_meaning t setting j)) (λ e. map_told (λ b. b ∷ []) (test_meaning e.0 setting j) (e.1 j)) es

  pair_told : (a b : HeldOperand) (j : Json) → IsTold (pair_of (operand_meaning a.0) (operand_meaning b.0) setting j)
  pair_told a b j = then_told (λ x. outcome_map (λ y. (x, y)) (operand_meaning b.0 setting j)) (operand_meaning a.0 setting j) (a.1 j) (λ x. map_told (λ (y : Option Json). let p : Option Json × Option Json = (x, y) in p) (operand_meaning b.0 setting j) (b.1 j))

  level_test : (y : Test-F HeldOperand HeldSegment HeldSelector HeldTest) →
      OfTest (views.roll-Test (map-Test HeldOperand HeldSegment HeldSelector HeldTest Operand Segment Selector Test (λ e. e.0) (λ e. e.0) (λ e. e.0) (λ e. e.0) y))
  level_test (Test-F.Any es) = subst OfTest (sym (views.rolls-Any (map (λ e. e.0) es))) (λ j. subst IsTold (sym (test-Any (map (λ e. e.0) es) setting j)) (map_told _ (tested_all setting j (map (λ e. e.0) es)) (tests_told es j)))
  level_test (Test-F.All es) = subst OfTest (sym (views.rolls-All (map (λ e. e.0) es))) (λ j. subst IsTold (sym (test-All (map (λ e. e.0) es) setting j)) (map_told _ (tested_all setting j (map (λ e. e.0) es)) (tests_told es j)))
  level_test (Test-F.Not e) = subst OfTest (sym (views.rolls-Not e.0)) (λ j. subst IsTold (sym (meaning-Not e.0 setting j)) (map_told not (test_meaning e.0 setting j) (e.1 j)))
  level_test (Test-F.Exists s es) = subst OfTest (sym (views.rolls-Exists s (map (λ e. e.0) es))) (λ j. subst IsTold (sym (test-Exists s (map (λ e. e.0) es) setting j)) (map_told _ (found_all setting j s (map (λ e. e.0) es)) (found_told es s j)))
  level_test (Test-F.Compare a op b) = subst OfTest (sym (views.rolls-Compare a.0 op b.0)) (λ j. subst IsTold (sym (meaning-Compare a.0 op b.0 setting j)) (map_told _ (pair_of (operand_meaning a.0) (operand_meaning b.0) setting j) (pair_told a b j)))
  level_test (Test-F.Match a b) = subst OfTest (sym (views.rolls-Match a.0 b.0)) (λ j. subst IsTold (sym (meaning-Match a.0 b.0 setting j))
      (then_told (λ p. searched_in setting.told true p.0 p.1) (pair_of (operand_meaning a.0) (operand_meaning b.0) setting j) (pair_told a b j) (λ p. searched_told true (option_and_then text_in p.0) (option_and_then text_in p.1))))
  level_test (Test-F.Search a b) = subst OfTest (sym (views.rolls-Search a.0 b.0)) (λ j. subst IsTold (sym (meaning-Search a.0 b.0 setting j))
      (then_told (λ p. searched_in setting.told false p.0 p.1) (pair_of (operand_meaning a.0) (operand_meaning b.0) setting j) (pair_told a b j) (λ p. searched_told false (option_and_then text_in p.0) (option_and_then text_in p.1))))

  level_operand : (y : Operand-F HeldOperand HeldSegment HeldSelector HeldTest) →
      OfOperand (views.roll-Operand (map-Operand HeldOperand HeldSegment HeldSelector HeldTest Operand Segment Selector Test (λ e. e.0) (λ e. e.0) (λ e. e.0) (λ e. e.0) y))
  level_operand Operand-F.Null = subst OfOperand (sym views.rolls-Null) (λ j. subst IsTold (sym (meaning-Null setting j)) tt)
  level_operand (Operand-F.Flag b) = subst OfOperand (sym (views.rolls-Flag b)) (λ j. subst IsTold (sym (meaning-Flag b setting j)) tt)
  level_operand (Operand-F.Int z) = subst OfOperand (sym (views.rolls-Int z)) (λ j. subst IsTold (sym (meaning-Int z setting j)) tt)
  level_operand (Operand-F.Text s) = subst OfOperand (sym (views.rolls-Text s)) (λ j. subst IsTold (sym (meaning-Text s setting j)) tt)
  level_operand (Operand-F.Query s es) = subst OfOperand (sym (views.rolls-Query s (map (λ e. e.0) es))) (λ j. subst IsTold (sym (operand-Query s (map (λ e. e.0) es) setting j)) (map_told _ (found_all setting j s (map (λ e. e.0) es)) (found_told es s j)))
  level_operand (Operand-F.Length e) = subst OfOperand (sym (views.rolls-Length e.0)) (λ j. subst IsTold (sym (meaning-Length e.0 setting j)) (map_told length_of (operand_meaning e.0 setting j) (e.1 j)))
  level_operand (Operand-F.Count s es) = subst OfOperand (sym (views.rolls-Count s (map (λ e. e.0) es))) (λ j. subst IsTold (sym (operand-Count s (map (λ e. e.0) es) setting j)) (map_told _ (found_all setting j s (map (λ e. e.0) es)) (found_told es s j)))
  level_operand (Operand-F.Value s es) = subst OfOperand (sym (views.rolls-Value s (map (λ e. e.0) es))) (λ j. subst IsTold (sym (operand-Value s (map (λ e. e.0) es) setting j)) (map_told _ (found_all setting j s (map (λ e. e.0) es)) (found_told es s j)))

  segment_told : (g : Segment) → OfSegment g
  segment_told = ind-Segment OfOperand OfSegment OfSelector OfTest
      (λ x y is. subst (λ z. OfOperand (views.roll-Operand z)) is (level_operand y))
      (λ x y is. subst (λ z. OfSegment (views.roll-Segment z)) is (level_segment y))
      (λ x y is. subst (λ z. OfSelector (views.roll-Selector z)) is (level_selector y))
      (λ x y is. subst (λ z. OfTest (views.roll-Test z)) is (level_test y))

  segments_told : (gs : List Segment) (ns : List Node) → IsTold (run (map segment_meaning gs) setting ns)
  segments_told [] ns = tt
  segments_told (g ∷ gs) ns = then_told (run (map segment_meaning gs) setting) (segment_meaning g setting ns) (segment_told g ns) (segments_told gs)

pub selected_is_told : (vs : List Segment) (setting : Setting) → TellsAll setting → IsTold (selected vs setting)
unfolding selected
selected_is_told vs setting tells = segments_told setting tells vs (([], setting.root) ∷ [])
