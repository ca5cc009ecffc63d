use Rattle.std.proofs.Common.{pos, rules, arith, ◌≡◌, [], ◌∷◌, ◌++◌, ◌+◌, map, take, drop, ℕ, List, true, false, not, nat_lt, Bool, cond, Ok, Option, Some, refl, sym, ap, ap₂, subst, ◌∙◌, append-nil}
use Rattle.std.proofs.lemmas.Grind.{common_steps}
use Rattle.std.proofs.lemmas.Int.{to_z-of_z}
use mir.Val.{to_z, of_z, SFits}
use mir.Syntax.{w64}
use Rattle.std.specs.List.{list_any, list_all}
use Rattle.std.specs.Option.{option_copied}
use Rattle.arz_json.specs.declared.tree.Json.{Json}
use Rattle.arz_json.specs.declared.tree.Json.TheVariants.{Int}
use Rattle.arz_json.specs.Answer.{Fails as Meant}
use Rattle.arz_query.specs.declared.query.Selector.TheVariants as selector
use Rattle.arz_query.specs.declared.query.Segment.{Segment}
use Rattle.arz_query.specs.declared.query.Selector.{Selector}
use Rattle.arz_query.specs.declared.query.Test.{Test}
use Rattle.arz_query.specs.declared.query.Operand.{the_lemmas}
use Rattle.arz_path.specs.declared.nodes.Held.{Held}
use Rattle.arz_path.specs.Outcome.{given, outcome_map, each, Covers}
use Rattle.arz_path.specs.Tree.{children}
use Rattle.arz_path.specs.Values.{compared, length_of}
use Rattle.arz_path.specs.Selected.{told_of, is_some_node, only, count_of, searched_in, test_meaning, operand_meaning}
use Rattle.arz_path.specs.Spots.{Spot, spots_below, within, down, grown, joined, sifted, picked_at, chosen_at, chosen_each, reached, spots_after, spots_after_all}
use Rattle.arz_path.specs.Seen.{seen, branch_of, coming, way, ahead, worth_seen, all_seen, bits_seen, found_seen, found_in, spots_found, found_all, tested_all}
use Rattle.arz_path.specs.Absolute.{Finding, telling, absolute, queries_of_test, queries_of_tests, queries_of_operand, found_at, Fits, Passed}
use Rattle.arz_path.specs.Results.{Fails, cause, bit_seen, setting_of}
use Rattle.arz_query.specs.declared.query.Start.TheVariants.{Root, Current}
use Rattle.arz_path.proofs.Outcomes.{covers_same, joined_begin, through_map}
use Rattle.arz_path.proofs.Absolute.{queries-Any, queries-All, queries-Not, queries-Exists, queries-Compare, queries-Match, queries-Search, queries-Null, queries-Flag, queries-Int, queries-Text, queries-Query, queries-Length, queries-Count, queries-Value, fits_none, fits_first, fits_next, fits_then, fits_round, fits_rounds, passed_none, passed_then, tests_begin, tests_fit, tests_step, tests_end, found-from, on_ok}
use Rattle.arz_path.proofs.Faults.{asked_same, asked_then, same_setting, fails_from, fails_map, fails_grows, exit, answers_later, pair_given, grown_given}
use Rattle.arz_path.proofs.Parts.{test-Any, test-All, test-Exists, operand-Query, operand-Value, operand-Count, of_found, some_found}
use Rattle.arz_path.proofs.Bridge.{picked-Name, picked-Wildcard, answers-Index, picked-Slice, picked-Filter, reached-Child, reached-Descendant}
use Rattle.arz_path.proofs.Meanings.{meaning-Not, meaning-Length, meaning-Compare, meaning-Match, meaning-Search}
use Rattle.arz_path.proofs.Levels.{ahead_first}
use Rattle.arz_path.proofs.Steps.{seen_room, sifted_skip, sifted_take, sifted_wide, sifted_fault, tested_step, tested_fault, run_step, run_fault, reached_step, reached_fault, below_step, below_fault, chosen_step, chosen_fault, sifted_end, tested_end, run_end, reached_end, below_end, chosen_end}
use Rattle.arz_path.proofs.evaluate.+evaluate.Goals as goal

pub nodes_after-returns-in_err-nodes-clause-gives : goal.nodes_after-returns-in_err-nodes-clause-gives
nodes_after-returns-in_err-nodes-clause-gives g t c =
    let l = c.loop-segment in
    let x : Segment = c.segment-item.result in
    let cut : drop l.segment-index c.as_slice-segment-items.result.now ≡ x ∷ drop (l.segment-index + 1) c.as_slice-segment-items.result.now = grind (arith, common_steps) in
    let whole : c.as_slice-segment-items.result.now ≡ c.args.segments.now = c.as_slice-segment-items.ensures in
    exit all_seen c.from_residual-in_err-nodes.result c.in_err-nodes.field-0.0 _ _ _ c.from_residual-in_err-nodes.ensures.1
    (rw (← whole) (fails_from _ _ _ _ _ _ l.invariant.1 (run_fault (setting_of (g.P.Patterns.patterns c.args.rx.now) c.args.root.now) (setting_of (g.P.Patterns.patterns c.loop-segment.rx) c.args.root.now) (same_setting (g.P.Patterns.patterns c.args.rx.now) (g.P.Patterns.patterns c.loop-segment.rx) c.args.root.now c.loop-segment.invariant.1) (spots_after_all (setting_of (g.P.Patterns.patterns c.args.rx.now) c.args.root.now) c.as_slice-segment-items.result.now (seen c.args.origin ∷ [])) x _ _ cut (map seen l.nodes.items) l.invariant.0) (subst (λ (ns : List Held). Fails c.in_err-nodes.field-0.0 (spots_after (setting_of (g.P.Patterns.patterns c.loop-segment.rx) c.args.root.now) x (map seen ns)) (g.P.Patterns.patterns c.loop-segment.rx) (g.P.Patterns.patterns c.after_segment.new.rx)) c.as_slice.ensures.value c.in_err-nodes.ensures.gives)))

pub nodes_after-loop-segment-preserved : goal.nodes_after-loop-segment-preserved
nodes_after-loop-segment-preserved g t c =
    let l = c.loop-segment in
    let x : Segment = c.segment-item.result in
    let cut : drop l.segment-index c.as_slice-segment-items.result.now ≡ x ∷ drop (l.segment-index + 1) c.as_slice-segment-items.result.now = grind (arith, common_steps) in (
      run_step (setting_of (g.P.Patterns.patterns c.args.rx.now) c.args.root.now) (setting_of (g.P.Patterns.patterns c.loop-segment.rx) c.args.root.now) (same_setting (g.P.Patterns.patterns c.args.rx.now) (g.P.Patterns.patterns c.loop-segment.rx) c.args.root.now c.loop-segment.invariant.1) (spots_after_all (setting_of (g.P.Patterns.patterns c.args.rx.now) c.args.root.now) c.as_slice-segment-items.result.now (seen c.args.origin ∷ [])) x _ _ cut (map seen l.nodes.items) l.invariant.0 _ (subst (λ (ns : List Held). Covers (spots_after (setting_of (g.P.Patterns.patterns c.loop-segment.rx) c.args.root.now) x (map seen ns)) (given (map seen c.in_ok-nodes.nodes.items))) c.as_slice.ensures.value c.in_ok-nodes.ensures.gives),
      asked_then _ _ _ l.invariant.1 c.in_ok-nodes.ensures.asked,
    )

pub nodes_after-returns-clause-gives : goal.nodes_after-returns-clause-gives
nodes_after-returns-clause-gives g t c =
    let l = c.loop-segment in
    let whole : c.as_slice-segment-items.result.now ≡ c.args.segments.now = c.as_slice-segment-items.ensures in
    let none : drop l.segment-index c.as_slice-segment-items.result.now ≡ [] = grind (arith, common_steps) in
    rw (← whole) (run_end (setting_of (g.P.Patterns.patterns c.args.rx.now) c.args.root.now) _ _ (subst (λ r. Covers (spots_after_all (setting_of (g.P.Patterns.patterns c.args.rx.now) c.args.root.now) c.as_slice-segment-items.result.now (seen c.args.origin ∷ [])) (spots_after_all (setting_of (g.P.Patterns.patterns c.args.rx.now) c.args.root.now) r (map seen l.nodes.items))) none l.invariant.0))

pub after_segment-returns-in_err-reach-clause-gives : goal.after_segment-returns-in_err-reach-clause-gives
unfolding spots_after
after_segment-returns-in_err-reach-clause-gives g t c =
    let l = c.loop-node in
    let x : Held = c.node-item.result in
    let cut : map seen (drop l.node-index c.args.nodes.now) ≡ seen x ∷ map seen (drop (l.node-index + 1) c.args.nodes.now) = grind (arith, common_steps) in
    exit all_seen c.from_residual.result c.in_err-reach.field-0.0 _ _ _ c.from_residual.ensures.1
    (fails_from _ _ _ _ _ _ l.invariant.1 (reached_fault (setting_of (g.P.Patterns.patterns c.args.rx.now) c.args.root.now) (setting_of (g.P.Patterns.patterns c.loop-node.rx) c.args.root.now) (same_setting (g.P.Patterns.patterns c.args.rx.now) (g.P.Patterns.patterns c.loop-node.rx) c.args.root.now c.loop-node.invariant.1) c.args.segment.now (grown [] (each (reached (setting_of (g.P.Patterns.patterns c.args.rx.now) c.args.root.now) c.args.segment.now) (map seen c.args.nodes.now))) (map seen l.out.items) (seen x) _ _ cut l.invariant.0) c.in_err-reach.ensures.gives)

pub after_segment-loop-node-preserved : goal.after_segment-loop-node-preserved
after_segment-loop-node-preserved g t c =
    let l = c.loop-node in
    let x : Held = c.node-item.result in
    let cut : map seen (drop l.node-index c.args.nodes.now) ≡ seen x ∷ map seen (drop (l.node-index + 1) c.args.nodes.now) = grind (arith, common_steps) in (
      reached_step (setting_of (g.P.Patterns.patterns c.args.rx.now) c.args.root.now) (setting_of (g.P.Patterns.patterns c.loop-node.rx) c.args.root.now) (same_setting (g.P.Patterns.patterns c.args.rx.now) (g.P.Patterns.patterns c.loop-node.rx) c.args.root.now c.loop-node.invariant.1) c.args.segment.now (grown [] (each (reached (setting_of (g.P.Patterns.patterns c.args.rx.now) c.args.root.now) c.args.segment.now) (map seen c.args.nodes.now))) (map seen l.out.items) (seen x) _ _ cut l.invariant.0 _ c.in_ok-reach.ensures.gives,
      asked_then _ _ _ l.invariant.1 c.in_ok-reach.ensures.asked,
      c.in_ok-reach.ensures.room,
    )

pub after_segment-returns-clause-gives : goal.after_segment-returns-clause-gives
unfolding spots_after
after_segment-returns-clause-gives g t c =
    let l = c.loop-node in
    let none : drop l.node-index c.args.nodes.now ≡ [] = grind (arith, common_steps) in
    reached_end (setting_of (g.P.Patterns.patterns c.args.rx.now) c.args.root.now) c.args.segment.now _ l.out.items l.invariant.2 (subst (λ r. Covers (grown [] (each (reached (setting_of (g.P.Patterns.patterns c.args.rx.now) c.args.root.now) c.args.segment.now) (map seen c.args.nodes.now))) (grown (map seen l.out.items) (each (reached (setting_of (g.P.Patterns.patterns c.args.rx.now) c.args.root.now) c.args.segment.now) (map seen r)))) none l.invariant.0)

pub reach-returns-in-Child-clause-gives : goal.reach-returns-in-Child-clause-gives
reach-returns-in-Child-clause-gives g t c =
    let at : way c.at-walk.result ≡ (seen c.args.node, []) = c.at-walk.ensures in
    let is = ap (λ v. reached (setting_of (g.P.Patterns.patterns c.args.rx.now) c.args.root.now) v (seen c.args.node)) c.in-Child.is ∙ reached-Child (setting_of (g.P.Patterns.patterns c.args.rx.now) c.args.root.now) c.in-Child.selectors (seen c.args.node)
    ∙ ap (λ (w : Spot × List Spot). chosen_at (setting_of (g.P.Patterns.patterns c.args.rx.now) c.args.root.now) c.in-Child.selectors w.0) (sym at) in
    rw is c.choose.ensures.gives

pub reach-returns-clause-gives : goal.reach-returns-clause-gives
reach-returns-clause-gives g t c =
    let at : way c.at-walk.result ≡ (seen c.args.node, []) = c.at-walk.ensures in
    let is = ap (λ v. reached (setting_of (g.P.Patterns.patterns c.args.rx.now) c.args.root.now) v (seen c.args.node)) c.in-Descendant.is ∙ reached-Descendant (setting_of (g.P.Patterns.patterns c.args.rx.now) c.args.root.now) c.in-Descendant.selectors (seen c.args.node)
    ∙ ap (chosen_each (setting_of (g.P.Patterns.patterns c.args.rx.now) c.args.root.now) c.in-Descendant.selectors) (sym (append-nil (down (seen c.args.node))) ∙ ap ahead (sym at)) in
    rw is c.choose_below.ensures.gives

pub choose_below-returns-in_err-choose-clause-gives : goal.choose_below-returns-in_err-choose-clause-gives
choose_below-returns-in_err-choose-clause-gives g t c =
    let l = c.nodes in
    exit _ c.from_residual.result c.in_err-choose.field-0.0 _ _ _ c.from_residual.ensures.1
    (fails_from _ _ _ _ _ _ l.invariant.1 (below_fault (setting_of (g.P.Patterns.patterns c.args.rx.now) c.args.root.now) (setting_of (g.P.Patterns.patterns c.nodes.rx) c.args.root.now) (same_setting (g.P.Patterns.patterns c.args.rx.now) (g.P.Patterns.patterns c.nodes.rx) c.args.root.now c.nodes.invariant.1) c.args.selectors.now (grown (map seen c.args.out.now.items) (chosen_each (setting_of (g.P.Patterns.patterns c.args.rx.now) c.args.root.now) c.args.selectors.now (ahead (way c.args.walk.now)))) (map seen l.out.items) (way l.walk).0 (ahead (way l.walk)) _ (ahead_first (way l.walk)) l.invariant.0) c.in_err-choose.ensures.gives)

pub choose_below-returns-then-not-branch-clause-gives : goal.choose_below-returns-then-not-branch-clause-gives
choose_below-returns-then-not-branch-clause-gives g t c =
    let l = c.nodes in
    let went : c.in_ok-advance.field-0 ≡ false = grind (arith, common_steps) in
    let stays : way c.choose.new.walk ≡ way l.walk = c.in_ok-choose.ensures.same in
    let cut : ahead (way l.walk) ≡ (way l.walk).0 ∷ [] = ap ahead (sym stays) ∙ c.in_ok-advance.ensures
    ∙ ap₂ (λ (w : Spot × List Spot) (b : Bool). w.0 ∷ cond b (ahead (way c.advance.new.self)) []) stays went in
    below_end (setting_of (g.P.Patterns.patterns c.args.rx.now) c.args.root.now) c.args.selectors.now (grown (map seen c.args.out.now.items) (chosen_each (setting_of (g.P.Patterns.patterns c.args.rx.now) c.args.root.now) c.args.selectors.now (ahead (way c.args.walk.now)))) c.choose.new.out.items c.in_ok-choose.ensures.room (below_step (setting_of (g.P.Patterns.patterns c.args.rx.now) c.args.root.now) (setting_of (g.P.Patterns.patterns c.nodes.rx) c.args.root.now) (same_setting (g.P.Patterns.patterns c.args.rx.now) (g.P.Patterns.patterns c.nodes.rx) c.args.root.now c.nodes.invariant.1) c.args.selectors.now (grown (map seen c.args.out.now.items) (chosen_each (setting_of (g.P.Patterns.patterns c.args.rx.now) c.args.root.now) c.args.selectors.now (ahead (way c.args.walk.now)))) (map seen l.out.items) (way l.walk).0 (ahead (way l.walk)) [] cut l.invariant.0 (map seen c.choose.new.out.items) c.in_ok-choose.ensures.gives)

pub choose_below-nodes-preserved : goal.choose_below-nodes-preserved
choose_below-nodes-preserved g t c =
    let l = c.nodes in
    let went : c.in_ok-advance.field-0 ≡ true = grind (arith, common_steps) in
    let stays : way c.choose.new.walk ≡ way l.walk = c.in_ok-choose.ensures.same in
    let cut : ahead (way l.walk) ≡ (way l.walk).0 ∷ ahead (way c.advance.new.self) = ap ahead (sym stays) ∙ c.in_ok-advance.ensures
    ∙ ap₂ (λ (w : Spot × List Spot) (b : Bool). w.0 ∷ cond b (ahead (way c.advance.new.self)) []) stays went in (
      below_step (setting_of (g.P.Patterns.patterns c.args.rx.now) c.args.root.now) (setting_of (g.P.Patterns.patterns c.nodes.rx) c.args.root.now) (same_setting (g.P.Patterns.patterns c.args.rx.now) (g.P.Patterns.patterns c.nodes.rx) c.args.root.now c.nodes.invariant.1) c.args.selectors.now (grown (map seen c.args.out.now.items) (chosen_each (setting_of (g.P.Patterns.patterns c.args.rx.now) c.args.root.now) c.args.selectors.now (ahead (way c.args.walk.now)))) (map seen l.out.items) (way l.walk).0 (ahead (way l.walk)) (ahead (way c.advance.new.self)) cut l.invariant.0 (map seen c.choose.new.out.items) c.in_ok-choose.ensures.gives,
      asked_then _ _ _ l.invariant.1 c.in_ok-choose.ensures.asked,
      c.in_ok-choose.ensures.room,
    )

pub choose-returns-in_err-pick-clause-gives : goal.choose-returns-in_err-pick-clause-gives
choose-returns-in_err-pick-clause-gives g t c =
    let l = c.loop-selector in
    let x : Selector = c.selector-item.result in
    let cut : drop l.selector-index c.as_slice-selector-items.result.now ≡ x ∷ drop (l.selector-index + 1) c.as_slice-selector-items.result.now = grind (arith, common_steps) in
    let whole : c.as_slice-selector-items.result.now ≡ c.args.selectors.now = c.as_slice-selector-items.ensures in
    exit _ c.from_residual.result c.in_err-pick.field-0.0 _ _ _ c.from_residual.ensures.1
    (rw (← whole) (fails_from _ _ _ _ _ _ l.invariant.1 (chosen_fault (setting_of (g.P.Patterns.patterns c.args.rx.now) c.args.root.now) (setting_of (g.P.Patterns.patterns c.loop-selector.rx) c.args.root.now) (same_setting (g.P.Patterns.patterns c.args.rx.now) (g.P.Patterns.patterns c.loop-selector.rx) c.args.root.now c.loop-selector.invariant.1) (way c.args.walk.now) (way l.walk) l.invariant.3 (grown (map seen c.args.out.now.items) (chosen_at (setting_of (g.P.Patterns.patterns c.args.rx.now) c.args.root.now) c.as_slice-selector-items.result.now (way c.args.walk.now).0)) (map seen l.out.items) x _ _ cut l.invariant.0) c.in_err-pick.ensures.gives))

pub choose-loop-selector-preserved : goal.choose-loop-selector-preserved
choose-loop-selector-preserved g t c =
    let l = c.loop-selector in
    let x : Selector = c.selector-item.result in
    let cut : drop l.selector-index c.as_slice-selector-items.result.now ≡ x ∷ drop (l.selector-index + 1) c.as_slice-selector-items.result.now = grind (arith, common_steps) in (
      chosen_step (setting_of (g.P.Patterns.patterns c.args.rx.now) c.args.root.now) (setting_of (g.P.Patterns.patterns c.loop-selector.rx) c.args.root.now) (same_setting (g.P.Patterns.patterns c.args.rx.now) (g.P.Patterns.patterns c.loop-selector.rx) c.args.root.now c.loop-selector.invariant.1) (way c.args.walk.now) (way l.walk) l.invariant.3 (grown (map seen c.args.out.now.items) (chosen_at (setting_of (g.P.Patterns.patterns c.args.rx.now) c.args.root.now) c.as_slice-selector-items.result.now (way c.args.walk.now).0)) (map seen l.out.items) x _ _ cut l.invariant.0 (map seen c.pick.new.out.items) c.in_ok-pick.ensures.gives,
      asked_then _ _ _ l.invariant.1 c.in_ok-pick.ensures.asked,
      c.in_ok-pick.ensures.room,
      c.in_ok-pick.ensures.same ∙ l.invariant.3,
    )

pub choose-returns-clause-gives : goal.choose-returns-clause-gives
choose-returns-clause-gives g t c =
    let l = c.loop-selector in
    let whole : c.as_slice-selector-items.result.now ≡ c.args.selectors.now = c.as_slice-selector-items.ensures in
    let none : drop l.selector-index c.as_slice-selector-items.result.now ≡ [] = grind (arith, common_steps) in
    rw (← whole) (chosen_end (setting_of (g.P.Patterns.patterns c.args.rx.now) c.args.root.now) (way c.args.walk.now).0 _ l.out.items l.invariant.2 (subst (λ r. Covers (grown (map seen c.args.out.now.items) (chosen_at (setting_of (g.P.Patterns.patterns c.args.rx.now) c.args.root.now) c.as_slice-selector-items.result.now (way c.args.walk.now).0)) (grown (map seen l.out.items) (chosen_at (setting_of (g.P.Patterns.patterns c.args.rx.now) c.args.root.now) r (way c.args.walk.now).0))) none l.invariant.0))

pub pick-returns-in-Name-clause-gives : goal.pick-returns-in-Name-clause-gives
pick-returns-in-Name-clause-gives g t c =
    let n = (way c.args.walk.now).0 in
    let is = ap (picked_at (setting_of (g.P.Patterns.patterns c.args.rx.now) c.args.root.now) n) (c.in-Name.is ∙ ap selector.Name (sym c.as_str.ensures)) ∙ picked-Name c.as_str.result.now (setting_of (g.P.Patterns.patterns c.args.rx.now) c.args.root.now) n in
    grown_given c.add_named.result _ _ _ _ _ _ is c.add_named.ensures.gives

pub pick-returns-in-Wildcard-clause-gives : goal.pick-returns-in-Wildcard-clause-gives
pick-returns-in-Wildcard-clause-gives g t c =
    let n = (way c.args.walk.now).0 in
    let is = ap (picked_at (setting_of (g.P.Patterns.patterns c.args.rx.now) c.args.root.now) n) c.in-Wildcard.is ∙ picked-Wildcard (setting_of (g.P.Patterns.patterns c.args.rx.now) c.args.root.now) n in
    grown_given c.add_children.result _ _ _ _ _ _ is c.add_children.ensures.gives

pub pick-returns-in-Index-clause-gives : goal.pick-returns-in-Index-clause-gives
pick-returns-in-Index-clause-gives g t c =
    let n = (way c.args.walk.now).0 in
    let is = ap (picked_at (setting_of (g.P.Patterns.patterns c.args.rx.now) c.args.root.now) n) c.in-Index.is in
    let fits : SFits w64 c.in-Index.i = search rules in
    rw is (answers-Index (setting_of (g.P.Patterns.patterns c.args.rx.now) c.args.root.now) n c.add_item.result _ _ _ _ c.in-Index.i (to_z w64 (of_z w64 c.in-Index.i)) c.add_item.ensures.gives (to_z-of_z w64 c.in-Index.i fits))

pub pick-returns-in-Slice-clause-gives : goal.pick-returns-in-Slice-clause-gives
pick-returns-in-Slice-clause-gives g t c =
    let n = (way c.args.walk.now).0 in
    let is = ap (picked_at (setting_of (g.P.Patterns.patterns c.args.rx.now) c.args.root.now) n) c.in-Slice.is ∙ picked-Slice c.in-Slice.slice (setting_of (g.P.Patterns.patterns c.args.rx.now) c.args.root.now) n in
    grown_given c.add_slice.result _ _ _ _ _ _ is c.add_slice.ensures.gives

pub pick-returns-in-Filter-clause-gives : goal.pick-returns-in-Filter-clause-gives
pick-returns-in-Filter-clause-gives g t c =
    let n = (way c.args.walk.now).0 in
    let is = ap (picked_at (setting_of (g.P.Patterns.patterns c.args.rx.now) c.args.root.now) n) c.in-Filter.is ∙ picked-Filter c.in-Filter.test (setting_of (g.P.Patterns.patterns c.args.rx.now) c.args.root.now) n in
    rw is c.sift.ensures.gives

pub sift-returns-in_err-holds-clause-gives : goal.sift-returns-in_err-holds-clause-gives
sift-returns-in_err-holds-clause-gives g t c =
    let l = c.children in
    let child = c.in-Some.child in
    let cut : coming l.children ≡ branch_of child ∷ coming c.next.new.self = c.in-Some.ensures in
    exit _ c.from_residual.result c.in_err-holds.field-0.0 _ _ _ c.from_residual.ensures.1
    (fails_from _ _ _ _ _ _ l.invariant.1 (sifted_fault (setting_of (g.P.Patterns.patterns c.args.rx.now) c.args.root.now) (setting_of (g.P.Patterns.patterns c.children.rx) c.args.root.now) (same_setting (g.P.Patterns.patterns c.args.rx.now) (g.P.Patterns.patterns c.children.rx) c.args.root.now c.children.invariant.1) c.args.test.now (way c.args.walk.now).0 (grown (map seen c.args.out.now.items) (sifted (setting_of (g.P.Patterns.patterns c.args.rx.now) c.args.root.now) c.args.test.now (way c.args.walk.now).0 (children (way c.args.walk.now).0.1))) (map seen l.out.items) (branch_of child) _ _ cut l.invariant.0) c.in_err-holds.ensures.gives)

pub sift-children-preserved-then-not-branch : goal.sift-children-preserved-then-not-branch
sift-children-preserved-then-not-branch g t c =
    let l = c.children in
    let child = c.in-Some.child in
    let cut : coming l.children ≡ branch_of child ∷ coming c.next.new.self = c.in-Some.ensures in
    let bit : c.in_ok-holds.field-0 ≡ false = grind (arith, common_steps) in
    let told = subst (λ b. Covers (test_meaning c.args.test.now (setting_of (g.P.Patterns.patterns c.children.rx) c.args.root.now) (branch_of child).1) (given b)) bit c.in_ok-holds.ensures.gives in (
      sifted_skip (setting_of (g.P.Patterns.patterns c.args.rx.now) c.args.root.now) (setting_of (g.P.Patterns.patterns c.children.rx) c.args.root.now) (same_setting (g.P.Patterns.patterns c.args.rx.now) (g.P.Patterns.patterns c.children.rx) c.args.root.now c.children.invariant.1) c.args.test.now (way c.args.walk.now).0 (grown (map seen c.args.out.now.items) (sifted (setting_of (g.P.Patterns.patterns c.args.rx.now) c.args.root.now) c.args.test.now (way c.args.walk.now).0 (children (way c.args.walk.now).0.1))) (map seen l.out.items) (branch_of child) _ _ cut l.invariant.0 (seen_room l.out.items l.invariant.2) told,
      asked_then _ _ _ l.invariant.1 c.in_ok-holds.ensures.asked,
      l.invariant.2,
      l.invariant.3,
      fits_rounds (setting_of (g.P.Patterns.patterns c.args.rx.now) c.args.root.now) (setting_of (g.P.Patterns.patterns c.children.rx) c.args.root.now) (same_setting (g.P.Patterns.patterns c.args.rx.now) (g.P.Patterns.patterns c.children.rx) c.args.root.now l.invariant.1) (queries_of_test c.args.test.now) (telling l.known) (telling c.rewind.new.self) (telling c.holds.new.known) c.rewind.ensures c.in_ok-holds.ensures.passed,
    )

pub sift-children-preserved : goal.sift-children-preserved
sift-children-preserved g t c =
    let l = c.children in
    let child = c.in-Some.child in
    let cut : coming l.children ≡ branch_of child ∷ coming c.next.new.self = c.in-Some.ensures in
    let bit : c.in_ok-holds.field-0 ≡ true = grind (arith, common_steps) in
    let told = subst (λ b. Covers (test_meaning c.args.test.now (setting_of (g.P.Patterns.patterns c.children.rx) c.args.root.now) (branch_of child).1) (given b)) bit c.in_ok-holds.ensures.gives in
    let added = subst (λ (w : Spot × List Spot). within (map seen l.out.items ++ spots_below w.0 (branch_of child ∷ [])) ≡ Ok (map seen c.add_child.new.out.items)) l.invariant.3 c.in_ok-add_child.ensures.gives in (
      sifted_take (setting_of (g.P.Patterns.patterns c.args.rx.now) c.args.root.now) (setting_of (g.P.Patterns.patterns c.children.rx) c.args.root.now) (same_setting (g.P.Patterns.patterns c.args.rx.now) (g.P.Patterns.patterns c.children.rx) c.args.root.now c.children.invariant.1) c.args.test.now (way c.args.walk.now).0 (grown (map seen c.args.out.now.items) (sifted (setting_of (g.P.Patterns.patterns c.args.rx.now) c.args.root.now) c.args.test.now (way c.args.walk.now).0 (children (way c.args.walk.now).0.1))) (map seen l.out.items) (branch_of child) _ _ cut l.invariant.0 (map seen c.add_child.new.out.items) told (ap told_of added),
      asked_then _ _ _ l.invariant.1 c.in_ok-holds.ensures.asked,
      c.in_ok-add_child.ensures.room,
      c.in_ok-add_child.ensures.same ∙ l.invariant.3,
      fits_rounds (setting_of (g.P.Patterns.patterns c.args.rx.now) c.args.root.now) (setting_of (g.P.Patterns.patterns c.children.rx) c.args.root.now) (same_setting (g.P.Patterns.patterns c.args.rx.now) (g.P.Patterns.patterns c.children.rx) c.args.root.now l.invariant.1) (queries_of_test c.args.test.now) (telling l.known) (telling c.rewind.new.self) (telling c.holds.new.known) c.rewind.ensures c.in_ok-holds.ensures.passed,
    )

pub sift-returns-in_err-add_child-clause-gives : goal.sift-returns-in_err-add_child-clause-gives
sift-returns-in_err-add_child-clause-gives g t c =
    let l = c.children in
    let child = c.in-Some.child in
    let cut : coming l.children ≡ branch_of child ∷ coming c.next.new.self = c.in-Some.ensures in
    let bit : c.in_ok-holds.field-0 ≡ true = grind (arith, common_steps) in
    let told = subst (λ b. Covers (test_meaning c.args.test.now (setting_of (g.P.Patterns.patterns c.children.rx) c.args.root.now) (branch_of child).1) (given b)) bit c.in_ok-holds.ensures.gives in
    let refused = subst (λ (w : Spot × List Spot). Meant (cause c.in_err-add_child.field-0.0) (within (map seen l.out.items ++ spots_below w.0 (branch_of child ∷ [])))) l.invariant.3 c.in_err-add_child.ensures.gives in
    exit _ c.from_residual-in_err-add_child.result c.in_err-add_child.field-0.0 _ _ _ c.from_residual-in_err-add_child.ensures.1
    (fails_grows c.in_err-add_child.field-0.0 _ _ _ _ (sifted_wide (setting_of (g.P.Patterns.patterns c.args.rx.now) c.args.root.now) (setting_of (g.P.Patterns.patterns c.children.rx) c.args.root.now) (same_setting (g.P.Patterns.patterns c.args.rx.now) (g.P.Patterns.patterns c.children.rx) c.args.root.now c.children.invariant.1) c.args.test.now (way c.args.walk.now).0 (grown (map seen c.args.out.now.items) (sifted (setting_of (g.P.Patterns.patterns c.args.rx.now) c.args.root.now) c.args.test.now (way c.args.walk.now).0 (children (way c.args.walk.now).0.1))) (map seen l.out.items) (branch_of child) _ _ cut l.invariant.0 told) refused)

pub sift-children-init : goal.sift-children-init
sift-children-init g t c = (
  subst (λ cs. Covers (grown (map seen c.args.out.now.items) (sifted (setting_of (g.P.Patterns.patterns c.args.rx.now) c.args.root.now) c.args.test.now (way c.args.walk.now).0 (children (way c.args.walk.now).0.1))) (grown (map seen c.args.out.now.items) (sifted (setting_of (g.P.Patterns.patterns c.args.rx.now) c.args.root.now) c.args.test.now (way c.args.walk.now).0 cs))) (sym (c.of-children.ensures ∙ ap children c.value.ensures)) (covers_same _),
  asked_same _,
  c.requires,
  refl,
  subst (λ (p : List Finding × List Finding). Fits (setting_of (g.P.Patterns.patterns c.args.rx.now) c.args.root.now) (queries_of_test c.args.test.now) (p.0 ++ p.1)) (sym c.nothing-known.ensures) (fits_none (setting_of (g.P.Patterns.patterns c.args.rx.now) c.args.root.now) (queries_of_test c.args.test.now)),
)

pub sift-holds-requires : goal.sift-holds-requires
sift-holds-requires g t c =
    let l = c.children in
    λ κs le. (search (rules, the_lemmas), (search rules, fits_round (setting_of (g.P.Patterns.patterns c.args.rx.now) c.args.root.now) (setting_of (g.P.Patterns.patterns c.children.rx) c.args.root.now) (same_setting (g.P.Patterns.patterns c.args.rx.now) (g.P.Patterns.patterns c.children.rx) c.args.root.now l.invariant.1) (queries_of_test c.args.test.now) (telling l.known) (telling c.rewind.new.self) c.rewind.ensures l.invariant.4))

pub sift-returns-clause-gives : goal.sift-returns-clause-gives
sift-returns-clause-gives g t c =
    let l = c.children in
    let none : coming l.children ≡ [] = c.in_default.ensures in
    sifted_end (setting_of (g.P.Patterns.patterns c.args.rx.now) c.args.root.now) c.args.test.now (way c.args.walk.now).0 _ l.out.items l.invariant.2 (subst (λ cs. Covers (grown (map seen c.args.out.now.items) (sifted (setting_of (g.P.Patterns.patterns c.args.rx.now) c.args.root.now) c.args.test.now (way c.args.walk.now).0 (children (way c.args.walk.now).0.1))) (grown (map seen l.out.items) (sifted (setting_of (g.P.Patterns.patterns c.args.rx.now) c.args.root.now) c.args.test.now (way c.args.walk.now).0 cs))) none l.invariant.0)

pub find-returns-in_err-nodes-clause-gives : goal.find-returns-in_err-nodes-clause-gives
unfolding found_at
find-returns-in_err-nodes-clause-gives g t c =
    exit found_seen c.from_residual.result c.in_err-nodes.field-0.0 _ _ _ c.from_residual.ensures.1
    (fails_map _ spots_found _ _ _ _ refl c.in_err-nodes.ensures.gives)

pub find-returns-clause-gives : goal.find-returns-clause-gives
unfolding found_at
find-returns-clause-gives g t c =
    let seen_all : found_seen c.found_among.result ≡ spots_found (map seen c.in_ok-nodes.nodes.items) = grind (arith, common_steps) in
    rw seen_all (through_map spots_found _ _ c.in_ok-nodes.ensures.gives)

pub found_from-returns-in-Current-clause-gives : goal.found_from-returns-in-Current-clause-gives
found_from-returns-in-Current-clause-gives g t c =
    let is = ap (λ start. outcome_map found_in (found_all (setting_of (g.P.Patterns.patterns c.args.rx.now) c.args.root.now) c.args.current.now start c.args.segments.now)) c.in-Current.is ∙ found-from (setting_of (g.P.Patterns.patterns c.args.rx.now) c.args.root.now) c.args.current.now Current c.args.segments.now in
    rw is c.find.ensures.gives

pub found_from-returns-in-Some-clause-gives : goal.found_from-returns-in-Some-clause-gives
found_from-returns-in-Some-clause-gives g t c =
    let is = ap (λ start. outcome_map found_in (found_all (setting_of (g.P.Patterns.patterns c.args.rx.now) c.args.root.now) c.args.current.now start c.args.segments.now)) c.in-Root.is ∙ found-from (setting_of (g.P.Patterns.patterns c.args.rx.now) c.args.root.now) c.args.current.now Root c.args.segments.now in
    rw is (fits_next (setting_of (g.P.Patterns.patterns c.args.rx.now) c.args.root.now) c.args.segments.now _ _ _ c.in-Some.ensures.0 (subst (λ start. Fits (setting_of (g.P.Patterns.patterns c.args.rx.now) c.args.root.now) (absolute start c.args.segments.now) (telling c.args.known.now).1) c.in-Root.is c.requires))

pub found_from-returns-in_err-found-in-Root-clause-gives : goal.found_from-returns-in_err-found-in-Root-clause-gives
found_from-returns-in_err-found-in-Root-clause-gives g t c =
    let is = ap (λ start. outcome_map found_in (found_all (setting_of (g.P.Patterns.patterns c.args.rx.now) c.args.root.now) c.args.current.now start c.args.segments.now)) c.in-Root.is ∙ found-from (setting_of (g.P.Patterns.patterns c.args.rx.now) c.args.root.now) c.args.current.now Root c.args.segments.now in
    exit found_seen c.from_residual.result c.in_err-found-in-Root.field-0.0 _ _ _ c.from_residual.ensures.1 (rw is c.in_err-found-in-Root.ensures.gives)

pub found_from-returns-in_ok-add-in-Root-clause-gives : goal.found_from-returns-in_ok-add-in-Root-clause-gives
found_from-returns-in_ok-add-in-Root-clause-gives g t c =
    let is = ap (λ start. outcome_map found_in (found_all (setting_of (g.P.Patterns.patterns c.args.rx.now) c.args.root.now) c.args.current.now start c.args.segments.now)) c.in-Root.is ∙ found-from (setting_of (g.P.Patterns.patterns c.args.rx.now) c.args.root.now) c.args.current.now Root c.args.segments.now in
    rw is c.in_ok-found-in-Root.ensures.gives

pub hold_each-returns-in_err-bit-clause-gives : goal.hold_each-returns-in_err-bit-clause-gives
hold_each-returns-in_err-bit-clause-gives g t c =
    let l = c.loop-test in
    let whole : c.as_slice-test-items.result.now ≡ c.args.tests.now = c.as_slice-test-items.ensures in
    let x : Test = c.test-item.result in
    let cut : drop l.test-index c.as_slice-test-items.result.now ≡ x ∷ drop (l.test-index + 1) c.as_slice-test-items.result.now = grind (arith, common_steps) in
    exit bits_seen c.from_residual.result c.in_err-bit.field-0.0 _ _ _ c.from_residual.ensures.1
    (rw (← whole) (fails_from _ _ _ _ _ _ l.invariant.1 (tested_fault (setting_of (g.P.Patterns.patterns c.args.rx.now) c.args.root.now) (setting_of (g.P.Patterns.patterns c.loop-test.rx) c.args.root.now) (same_setting (g.P.Patterns.patterns c.args.rx.now) (g.P.Patterns.patterns c.loop-test.rx) c.args.root.now c.loop-test.invariant.1) c.args.current.now (tested_all (setting_of (g.P.Patterns.patterns c.args.rx.now) c.args.root.now) c.args.current.now c.as_slice-test-items.result.now) l.all.items l.all.items x _ _ cut l.invariant.0) c.in_err-bit.ensures.gives))

pub hold_each-loop-test-preserved : goal.hold_each-loop-test-preserved
hold_each-loop-test-preserved g t c =
    let l = c.loop-test in
    let x : Test = c.test-item.result in
    let cut : drop l.test-index c.as_slice-test-items.result.now ≡ x ∷ drop (l.test-index + 1) c.as_slice-test-items.result.now = grind (arith, common_steps) in
    let more : take (l.test-index + 1) c.as_slice-test-items.result.now ≡ take l.test-index c.as_slice-test-items.result.now ++ x ∷ [] = grind (arith, common_steps) in (
      tested_step (setting_of (g.P.Patterns.patterns c.args.rx.now) c.args.root.now) (setting_of (g.P.Patterns.patterns c.loop-test.rx) c.args.root.now) (same_setting (g.P.Patterns.patterns c.args.rx.now) (g.P.Patterns.patterns c.loop-test.rx) c.args.root.now c.loop-test.invariant.1) c.args.current.now (tested_all (setting_of (g.P.Patterns.patterns c.args.rx.now) c.args.root.now) c.args.current.now c.as_slice-test-items.result.now) l.all.items c.push.new.self.items x _ _ cut l.invariant.0 c.in_ok-bit.bit c.in_ok-push.ensures.items c.in_ok-bit.ensures.gives,
      asked_then _ _ _ l.invariant.1 c.in_ok-bit.ensures.asked,
      tests_step (setting_of (g.P.Patterns.patterns c.args.rx.now) c.args.root.now) (setting_of (g.P.Patterns.patterns l.rx) c.args.root.now) (same_setting (g.P.Patterns.patterns c.args.rx.now) (g.P.Patterns.patterns l.rx) c.args.root.now l.invariant.1) c.as_slice-test-items.result.now (drop (l.test-index + 1) c.as_slice-test-items.result.now) x l.test-index (telling c.args.known.now) (telling l.known) l.invariant.2 (telling c.holds.new.known) more c.in_ok-bit.ensures.passed,
    )

pub hold_each-loop-test-init : goal.hold_each-loop-test-init
hold_each-loop-test-init g t c = (joined_begin _ (grind (arith, common_steps)) _, asked_same _, tests_begin (setting_of (g.P.Patterns.patterns c.args.rx.now) c.args.root.now) c.as_slice-test-items.result.now (telling c.args.known.now))

pub hold_each-holds-requires : goal.hold_each-holds-requires
hold_each-holds-requires g t c =
    let l = c.loop-test in
    let x : Test = c.test-item.result in
    let whole : c.as_slice-test-items.result.now ≡ c.args.tests.now = c.as_slice-test-items.ensures in
    let cut : drop l.test-index c.as_slice-test-items.result.now ≡ x ∷ drop (l.test-index + 1) c.as_slice-test-items.result.now = grind (arith, common_steps) in
    λ κs le. (search (rules, the_lemmas), (search rules, tests_fit (setting_of (g.P.Patterns.patterns c.args.rx.now) c.args.root.now) (setting_of (g.P.Patterns.patterns l.rx) c.args.root.now) (same_setting (g.P.Patterns.patterns c.args.rx.now) (g.P.Patterns.patterns l.rx) c.args.root.now l.invariant.1) c.as_slice-test-items.result.now (drop (l.test-index + 1) c.as_slice-test-items.result.now) x l.test-index (telling c.args.known.now) (telling l.known) l.invariant.2 cut (subst (λ ts. Fits (setting_of (g.P.Patterns.patterns c.args.rx.now) c.args.root.now) (queries_of_tests ts) (telling c.args.known.now).1) (sym whole) c.requires)))

pub hold_each-returns-clause-passed : goal.hold_each-returns-clause-passed
hold_each-returns-clause-passed g t c =
    let l = c.loop-test in
    let whole : c.as_slice-test-items.result.now ≡ c.args.tests.now = c.as_slice-test-items.ensures in
    let none : drop l.test-index c.as_slice-test-items.result.now ≡ [] = grind (arith, common_steps) in
    rw (← whole) (tests_end (setting_of (g.P.Patterns.patterns c.args.rx.now) c.args.root.now) c.as_slice-test-items.result.now l.test-index (telling c.args.known.now) (telling l.known) none l.invariant.2)

pub hold_each-returns-clause-gives : goal.hold_each-returns-clause-gives
hold_each-returns-clause-gives g t c =
    let l = c.loop-test in
    let whole : c.as_slice-test-items.result.now ≡ c.args.tests.now = c.as_slice-test-items.ensures in
    let none : drop l.test-index c.as_slice-test-items.result.now ≡ [] = grind (arith, common_steps) in
    rw (← whole) (tested_end (setting_of (g.P.Patterns.patterns c.args.rx.now) c.args.root.now) c.args.current.now _ _ (subst (λ r. Covers (tested_all (setting_of (g.P.Patterns.patterns c.args.rx.now) c.args.root.now) c.args.current.now c.as_slice-test-items.result.now) (joined l.all.items (tested_all (setting_of (g.P.Patterns.patterns c.args.rx.now) c.args.root.now) c.args.current.now r))) none l.invariant.0))

pub holds-returns-in_err-hold_each-in-Any-clause-gives : goal.holds-returns-in_err-hold_each-in-Any-clause-gives
holds-returns-in_err-hold_each-in-Any-clause-gives g t c =
    let is = ap (λ t. test_meaning t (setting_of (g.P.Patterns.patterns c.args.rx.now) c.args.root.now) c.args.current.now) c.in-Any.is ∙ test-Any c.in-Any.tests (setting_of (g.P.Patterns.patterns c.args.rx.now) c.args.root.now) c.args.current.now in
    exit bit_seen c.from_residual.result c.in_err-hold_each-in-Any.field-0.0 _ _ _ c.from_residual.ensures.1
    (fails_map _ (list_any (λ b. b)) _ _ _ _ is c.in_err-hold_each-in-Any.ensures.gives)

pub holds-returns-in_ok-hold_each-in-Any-clause-gives : goal.holds-returns-in_ok-hold_each-in-Any-clause-gives
holds-returns-in_ok-hold_each-in-Any-clause-gives g t c =
    let is = ap (λ t. test_meaning t (setting_of (g.P.Patterns.patterns c.args.rx.now) c.args.root.now) c.args.current.now) c.in-Any.is ∙ test-Any c.in-Any.tests (setting_of (g.P.Patterns.patterns c.args.rx.now) c.args.root.now) c.args.current.now in
    let bit : c.any_of.result ≡ (list_any (λ b. b)) c.in_ok-hold_each-in-Any.field-0.items = grind (arith, common_steps) in
    rw (is, bit) (through_map (list_any (λ b. b)) _ _ c.in_ok-hold_each-in-Any.ensures.gives)

pub holds-returns-in_err-hold_each-in-All-clause-gives : goal.holds-returns-in_err-hold_each-in-All-clause-gives
holds-returns-in_err-hold_each-in-All-clause-gives g t c =
    let is = ap (λ t. test_meaning t (setting_of (g.P.Patterns.patterns c.args.rx.now) c.args.root.now) c.args.current.now) c.in-All.is ∙ test-All c.in-All.tests (setting_of (g.P.Patterns.patterns c.args.rx.now) c.args.root.now) c.args.current.now in
    exit bit_seen c.from_residual-in_err-hold_each-in-All.result c.in_err-hold_each-in-All.field-0.0 _ _ _ c.from_residual-in_err-hold_each-in-All.ensures.1
    (fails_map _ (list_all (λ b. b)) _ _ _ _ is c.in_err-hold_each-in-All.ensures.gives)

pub holds-returns-in_ok-hold_each-in-All-clause-gives : goal.holds-returns-in_ok-hold_each-in-All-clause-gives
holds-returns-in_ok-hold_each-in-All-clause-gives g t c =
    let is = ap (λ t. test_meaning t (setting_of (g.P.Patterns.patterns c.args.rx.now) c.args.root.now) c.args.current.now) c.in-All.is ∙ test-All c.in-All.tests (setting_of (g.P.Patterns.patterns c.args.rx.now) c.args.root.now) c.args.current.now in
    let bit : c.all_of.result ≡ (list_all (λ b. b)) c.in_ok-hold_each-in-All.field-0.items = grind (arith, common_steps) in
    rw (is, bit) (through_map (list_all (λ b. b)) _ _ c.in_ok-hold_each-in-All.ensures.gives)

pub holds-returns-in_err-holds-in-Not-clause-gives : goal.holds-returns-in_err-holds-in-Not-clause-gives
holds-returns-in_err-holds-in-Not-clause-gives g t c =
    let is = ap (λ t. test_meaning t (setting_of (g.P.Patterns.patterns c.args.rx.now) c.args.root.now) c.args.current.now) c.in-Not.is ∙ meaning-Not c.in-Not.test (setting_of (g.P.Patterns.patterns c.args.rx.now) c.args.root.now) c.args.current.now
    ∙ ap (λ t. outcome_map not (test_meaning t (setting_of (g.P.Patterns.patterns c.args.rx.now) c.args.root.now) c.args.current.now)) (sym c.get.ensures) in
    exit bit_seen c.from_residual-in_err-holds-in-Not.result c.in_err-holds-in-Not.field-0.0 _ _ _ c.from_residual-in_err-holds-in-Not.ensures.1
    (fails_map _ not _ _ _ _ is c.in_err-holds-in-Not.ensures.gives)

pub holds-returns-in_ok-holds-in-Not-clause-gives : goal.holds-returns-in_ok-holds-in-Not-clause-gives
holds-returns-in_ok-holds-in-Not-clause-gives g t c =
    let is = ap (λ t. test_meaning t (setting_of (g.P.Patterns.patterns c.args.rx.now) c.args.root.now) c.args.current.now) c.in-Not.is ∙ meaning-Not c.in-Not.test (setting_of (g.P.Patterns.patterns c.args.rx.now) c.args.root.now) c.args.current.now
    ∙ ap (λ t. outcome_map not (test_meaning t (setting_of (g.P.Patterns.patterns c.args.rx.now) c.args.root.now) c.args.current.now)) (sym c.get.ensures) in
    rw is (through_map not _ _ c.in_ok-holds-in-Not.ensures.gives)

pub holds-returns-in_err-found-in-Exists-clause-gives : goal.holds-returns-in_err-found-in-Exists-clause-gives
holds-returns-in_err-found-in-Exists-clause-gives g t c =
    let is = ap (λ t. test_meaning t (setting_of (g.P.Patterns.patterns c.args.rx.now) c.args.root.now) c.args.current.now) c.in-Exists.is ∙ test-Exists c.in-Exists.start c.in-Exists.segments (setting_of (g.P.Patterns.patterns c.args.rx.now) c.args.root.now) c.args.current.now ∙ of_found is_some_node (λ p. nat_lt 0 p.0) some_found (found_all (setting_of (g.P.Patterns.patterns c.args.rx.now) c.args.root.now) c.args.current.now c.in-Exists.start c.in-Exists.segments) in
    exit bit_seen c.from_residual-in_err-found-in-Exists.result c.in_err-found-in-Exists.field-0.0 _ _ _ c.from_residual-in_err-found-in-Exists.ensures.1
    (fails_map _ (λ p. nat_lt 0 p.0) _ _ _ _ is c.in_err-found-in-Exists.ensures.gives)

pub holds-returns-in_ok-found-in-Exists-clause-gives : goal.holds-returns-in_ok-found-in-Exists-clause-gives
holds-returns-in_ok-found-in-Exists-clause-gives g t c =
    let is = ap (λ t. test_meaning t (setting_of (g.P.Patterns.patterns c.args.rx.now) c.args.root.now) c.args.current.now) c.in-Exists.is ∙ test-Exists c.in-Exists.start c.in-Exists.segments (setting_of (g.P.Patterns.patterns c.args.rx.now) c.args.root.now) c.args.current.now ∙ of_found is_some_node (λ p. nat_lt 0 p.0) some_found (found_all (setting_of (g.P.Patterns.patterns c.args.rx.now) c.args.root.now) c.args.current.now c.in-Exists.start c.in-Exists.segments) in
    rw is (through_map (λ p. nat_lt 0 p.0) _ _ c.in_ok-found-in-Exists.ensures.gives)

pub holds-returns-in_ok-right-in-Compare-clause-gives : goal.holds-returns-in_ok-right-in-Compare-clause-gives
holds-returns-in_ok-right-in-Compare-clause-gives g t c =
    let is = ap (λ t. test_meaning t (setting_of (g.P.Patterns.patterns c.args.rx.now) c.args.root.now) c.args.current.now) c.in-Compare.is ∙ meaning-Compare c.in-Compare.left c.in-Compare.comparison c.in-Compare.right (setting_of (g.P.Patterns.patterns c.args.rx.now) c.args.root.now) c.args.current.now in
    let later = same_setting _ _ c.args.root.now c.in_ok-left-in-Compare.ensures.asked in
    let pair = pair_given (setting_of (g.P.Patterns.patterns c.args.rx.now) c.args.root.now) _ later c.args.current.now c.in-Compare.left c.in-Compare.right _ _ c.in_ok-left-in-Compare.ensures.gives c.in_ok-right-in-Compare.ensures.gives in
    let bit : c.compare.result ≡ compared c.in-Compare.comparison (worth_seen c.in_ok-left-in-Compare.left) (worth_seen c.in_ok-right-in-Compare.right) = grind (arith, common_steps) in
    rw (is, bit) (through_map (λ p. compared c.in-Compare.comparison p.0 p.1) _ _ pair)

pub holds-returns-in_ok-pattern-in-Match-clause-gives : goal.holds-returns-in_ok-pattern-in-Match-clause-gives
holds-returns-in_ok-pattern-in-Match-clause-gives g t c =
    let is = ap (λ t. test_meaning t (setting_of (g.P.Patterns.patterns c.args.rx.now) c.args.root.now) c.args.current.now) c.in-Match.is ∙ meaning-Match c.in-Match.text c.in-Match.pattern (setting_of (g.P.Patterns.patterns c.args.rx.now) c.args.root.now) c.args.current.now in
    let later = same_setting _ _ c.args.root.now c.in_ok-text-in-Match.ensures.asked in
    let pair = pair_given (setting_of (g.P.Patterns.patterns c.args.rx.now) c.args.root.now) _ later c.args.current.now c.in-Match.text c.in-Match.pattern _ _ c.in_ok-text-in-Match.ensures.gives c.in_ok-pattern-in-Match.ensures.gives in
    rw is (answers_later (λ told p. searched_in told true p.0 p.1) _ _ _ _ _ _ _ c.in_ok-text-in-Match.ensures.asked c.in_ok-pattern-in-Match.ensures.asked pair c.is_match.ensures.gives)

pub holds-returns-in_ok-pattern-in-Search-clause-gives : goal.holds-returns-in_ok-pattern-in-Search-clause-gives
holds-returns-in_ok-pattern-in-Search-clause-gives g t c =
    let is = ap (λ t. test_meaning t (setting_of (g.P.Patterns.patterns c.args.rx.now) c.args.root.now) c.args.current.now) c.in-Search.is ∙ meaning-Search c.in-Search.text c.in-Search.pattern (setting_of (g.P.Patterns.patterns c.args.rx.now) c.args.root.now) c.args.current.now in
    let later = same_setting _ _ c.args.root.now c.in_ok-text-in-Search.ensures.asked in
    let pair = pair_given (setting_of (g.P.Patterns.patterns c.args.rx.now) c.args.root.now) _ later c.args.current.now c.in-Search.text c.in-Search.pattern _ _ c.in_ok-text-in-Search.ensures.gives c.in_ok-pattern-in-Search.ensures.gives in
    rw is (answers_later (λ told p. searched_in told false p.0 p.1) _ _ _ _ _ _ _ c.in_ok-text-in-Search.ensures.asked c.in_ok-pattern-in-Search.ensures.asked pair c.is_match-in-Search.ensures.gives)

pub value_of-returns-in_err-found-in-Query-clause-gives : goal.value_of-returns-in_err-found-in-Query-clause-gives
value_of-returns-in_err-found-in-Query-clause-gives g t c =
    let is = ap (λ o. operand_meaning o (setting_of (g.P.Patterns.patterns c.args.rx.now) c.args.root.now) c.args.current.now) c.in-Query.is ∙ operand-Query c.in-Query.start c.in-Query.segments (setting_of (g.P.Patterns.patterns c.args.rx.now) c.args.root.now) c.args.current.now ∙ of_found only (λ (p : ℕ × Option Json). p.1) (λ ns. refl) (found_all (setting_of (g.P.Patterns.patterns c.args.rx.now) c.args.root.now) c.args.current.now c.in-Query.start c.in-Query.segments) in
    exit worth_seen c.from_residual.result c.in_err-found-in-Query.field-0.0 _ _ _ c.from_residual.ensures.1
    (fails_map _ (λ (p : ℕ × Option Json). p.1) _ _ _ _ is c.in_err-found-in-Query.ensures.gives)

pub value_of-returns-in_ok-found-in-Query-clause-gives : goal.value_of-returns-in_ok-found-in-Query-clause-gives
value_of-returns-in_ok-found-in-Query-clause-gives g t c =
    let is = ap (λ o. operand_meaning o (setting_of (g.P.Patterns.patterns c.args.rx.now) c.args.root.now) c.args.current.now) c.in-Query.is ∙ operand-Query c.in-Query.start c.in-Query.segments (setting_of (g.P.Patterns.patterns c.args.rx.now) c.args.root.now) c.args.current.now ∙ of_found only (λ (p : ℕ × Option Json). p.1) (λ ns. refl) (found_all (setting_of (g.P.Patterns.patterns c.args.rx.now) c.args.root.now) c.args.current.now c.in-Query.start c.in-Query.segments) in
    let value : worth_seen c.worth_of.result ≡ option_copied c.in_ok-found-in-Query.found.only = grind (arith, common_steps) in
    rw (is, value) (through_map (λ (p : ℕ × Option Json). p.1) _ _ c.in_ok-found-in-Query.ensures.gives)

pub value_of-returns-in_err-found-in-Count-clause-gives : goal.value_of-returns-in_err-found-in-Count-clause-gives
value_of-returns-in_err-found-in-Count-clause-gives g t c =
    let is = ap (λ o. operand_meaning o (setting_of (g.P.Patterns.patterns c.args.rx.now) c.args.root.now) c.args.current.now) c.in-Count.is ∙ operand-Count c.in-Count.start c.in-Count.segments (setting_of (g.P.Patterns.patterns c.args.rx.now) c.args.root.now) c.args.current.now ∙ of_found count_of (λ (p : ℕ × Option Json). Some (Int (pos p.0))) (λ ns. refl) (found_all (setting_of (g.P.Patterns.patterns c.args.rx.now) c.args.root.now) c.args.current.now c.in-Count.start c.in-Count.segments) in
    exit worth_seen c.from_residual-in_err-found-in-Count.result c.in_err-found-in-Count.field-0.0 _ _ _ c.from_residual-in_err-found-in-Count.ensures.1
    (fails_map _ (λ (p : ℕ × Option Json). Some (Int (pos p.0))) _ _ _ _ is c.in_err-found-in-Count.ensures.gives)

pub value_of-returns-in_ok-found-in-Count-clause-gives : goal.value_of-returns-in_ok-found-in-Count-clause-gives
value_of-returns-in_ok-found-in-Count-clause-gives g t c =
    let is = ap (λ o. operand_meaning o (setting_of (g.P.Patterns.patterns c.args.rx.now) c.args.root.now) c.args.current.now) c.in-Count.is ∙ operand-Count c.in-Count.start c.in-Count.segments (setting_of (g.P.Patterns.patterns c.args.rx.now) c.args.root.now) c.args.current.now ∙ of_found count_of (λ (p : ℕ × Option Json). Some (Int (pos p.0))) (λ ns. refl) (found_all (setting_of (g.P.Patterns.patterns c.args.rx.now) c.args.root.now) c.args.current.now c.in-Count.start c.in-Count.segments) in
    let value : worth_seen c.worth_of_count.result ≡ Some (Int (pos c.in_ok-found-in-Count.found.count)) = grind (arith, common_steps) in
    rw (is, value) (through_map (λ (p : ℕ × Option Json). Some (Int (pos p.0))) _ _ c.in_ok-found-in-Count.ensures.gives)

pub value_of-returns-in_err-found-in-Value-clause-gives : goal.value_of-returns-in_err-found-in-Value-clause-gives
value_of-returns-in_err-found-in-Value-clause-gives g t c =
    let is = ap (λ o. operand_meaning o (setting_of (g.P.Patterns.patterns c.args.rx.now) c.args.root.now) c.args.current.now) c.in-Value.is ∙ operand-Value c.in-Value.start c.in-Value.segments (setting_of (g.P.Patterns.patterns c.args.rx.now) c.args.root.now) c.args.current.now ∙ of_found only (λ (p : ℕ × Option Json). p.1) (λ ns. refl) (found_all (setting_of (g.P.Patterns.patterns c.args.rx.now) c.args.root.now) c.args.current.now c.in-Value.start c.in-Value.segments) in
    exit worth_seen c.from_residual-in_err-found-in-Value.result c.in_err-found-in-Value.field-0.0 _ _ _ c.from_residual-in_err-found-in-Value.ensures.1
    (fails_map _ (λ (p : ℕ × Option Json). p.1) _ _ _ _ is c.in_err-found-in-Value.ensures.gives)

pub value_of-returns-in_ok-found-in-Value-clause-gives : goal.value_of-returns-in_ok-found-in-Value-clause-gives
value_of-returns-in_ok-found-in-Value-clause-gives g t c =
    let is = ap (λ o. operand_meaning o (setting_of (g.P.Patterns.patterns c.args.rx.now) c.args.root.now) c.args.current.now) c.in-Value.is ∙ operand-Value c.in-Value.start c.in-Value.segments (setting_of (g.P.Patterns.patterns c.args.rx.now) c.args.root.now) c.args.current.now ∙ of_found only (λ (p : ℕ × Option Json). p.1) (λ ns. refl) (found_all (setting_of (g.P.Patterns.patterns c.args.rx.now) c.args.root.now) c.args.current.now c.in-Value.start c.in-Value.segments) in
    let value : worth_seen c.worth_of-in-Value.result ≡ option_copied c.in_ok-found-in-Value.found.only = grind (arith, common_steps) in
    rw (is, value) (through_map (λ (p : ℕ × Option Json). p.1) _ _ c.in_ok-found-in-Value.ensures.gives)

pub value_of-returns-in_err-worth-in-Length-clause-gives : goal.value_of-returns-in_err-worth-in-Length-clause-gives
value_of-returns-in_err-worth-in-Length-clause-gives g t c =
    let is = ap (λ o. operand_meaning o (setting_of (g.P.Patterns.patterns c.args.rx.now) c.args.root.now) c.args.current.now) c.in-Length.is ∙ meaning-Length c.in-Length.operand (setting_of (g.P.Patterns.patterns c.args.rx.now) c.args.root.now) c.args.current.now
    ∙ ap (λ o. outcome_map length_of (operand_meaning o (setting_of (g.P.Patterns.patterns c.args.rx.now) c.args.root.now) c.args.current.now)) (sym c.get.ensures) in
    exit worth_seen c.from_residual-in_err-worth-in-Length.result c.in_err-worth-in-Length.field-0.0 _ _ _ c.from_residual-in_err-worth-in-Length.ensures.1
    (fails_map _ length_of _ _ _ _ is c.in_err-worth-in-Length.ensures.gives)

pub value_of-returns-in_ok-worth-in-Length-clause-gives : goal.value_of-returns-in_ok-worth-in-Length-clause-gives
value_of-returns-in_ok-worth-in-Length-clause-gives g t c =
    let is = ap (λ o. operand_meaning o (setting_of (g.P.Patterns.patterns c.args.rx.now) c.args.root.now) c.args.current.now) c.in-Length.is ∙ meaning-Length c.in-Length.operand (setting_of (g.P.Patterns.patterns c.args.rx.now) c.args.root.now) c.args.current.now
    ∙ ap (λ o. outcome_map length_of (operand_meaning o (setting_of (g.P.Patterns.patterns c.args.rx.now) c.args.root.now) c.args.current.now)) (sym c.get.ensures) in
    let value : worth_seen c.length_of.result ≡ length_of (worth_seen c.in_ok-worth-in-Length.worth) = grind (arith, common_steps) in
    rw (is, value) (through_map length_of _ _ c.in_ok-worth-in-Length.ensures.gives)

pub holds-hold_each-requires : goal.holds-hold_each-requires
holds-hold_each-requires g t c = λ κs le. (search (rules, the_lemmas), (search rules, subst (λ qs. Fits (setting_of (g.P.Patterns.patterns c.args.rx.now) c.args.root.now) qs (telling c.args.known.now).1) (ap queries_of_test c.in-Any.is ∙ queries-Any c.in-Any.tests) c.requires))

pub holds-returns-in_ok-hold_each-in-Any-clause-passed : goal.holds-returns-in_ok-hold_each-in-Any-clause-passed
holds-returns-in_ok-hold_each-in-Any-clause-passed g t c = subst (λ qs. Passed (setting_of (g.P.Patterns.patterns c.args.rx.now) c.args.root.now) qs (telling c.args.known.now) (telling c.hold_each.new.known)) (sym (ap queries_of_test c.in-Any.is ∙ queries-Any c.in-Any.tests)) c.in_ok-hold_each-in-Any.ensures.passed

pub holds-hold_each-requires-in-All : goal.holds-hold_each-requires-in-All
holds-hold_each-requires-in-All g t c = λ κs le. (search (rules, the_lemmas), (search rules, subst (λ qs. Fits (setting_of (g.P.Patterns.patterns c.args.rx.now) c.args.root.now) qs (telling c.args.known.now).1) (ap queries_of_test c.in-All.is ∙ queries-All c.in-All.tests) c.requires))

pub holds-returns-in_ok-hold_each-in-All-clause-passed : goal.holds-returns-in_ok-hold_each-in-All-clause-passed
holds-returns-in_ok-hold_each-in-All-clause-passed g t c = subst (λ qs. Passed (setting_of (g.P.Patterns.patterns c.args.rx.now) c.args.root.now) qs (telling c.args.known.now) (telling c.hold_each-in-All.new.known)) (sym (ap queries_of_test c.in-All.is ∙ queries-All c.in-All.tests)) c.in_ok-hold_each-in-All.ensures.passed

pub holds-holds-requires : goal.holds-holds-requires
holds-holds-requires g t c = λ κs le. (search (rules, the_lemmas), (search rules, subst (λ qs. Fits (setting_of (g.P.Patterns.patterns c.args.rx.now) c.args.root.now) qs (telling c.args.known.now).1) (ap queries_of_test c.in-Not.is ∙ queries-Not c.in-Not.test ∙ ap queries_of_test (sym c.get.ensures)) c.requires))

pub holds-returns-in_ok-holds-in-Not-clause-passed : goal.holds-returns-in_ok-holds-in-Not-clause-passed
holds-returns-in_ok-holds-in-Not-clause-passed g t c = subst (λ qs. Passed (setting_of (g.P.Patterns.patterns c.args.rx.now) c.args.root.now) qs (telling c.args.known.now) (telling c.holds.new.known)) (sym (ap queries_of_test c.in-Not.is ∙ queries-Not c.in-Not.test ∙ ap queries_of_test (sym c.get.ensures))) c.in_ok-holds-in-Not.ensures.passed

pub holds-found_from-requires : goal.holds-found_from-requires
holds-found_from-requires g t c = λ κs le. (search (rules, the_lemmas), (search rules, subst (λ qs. Fits (setting_of (g.P.Patterns.patterns c.args.rx.now) c.args.root.now) qs (telling c.args.known.now).1) (ap queries_of_test c.in-Exists.is ∙ queries-Exists c.in-Exists.start c.in-Exists.segments) c.requires))

pub holds-returns-in_ok-found-in-Exists-clause-passed : goal.holds-returns-in_ok-found-in-Exists-clause-passed
holds-returns-in_ok-found-in-Exists-clause-passed g t c = subst (λ qs. Passed (setting_of (g.P.Patterns.patterns c.args.rx.now) c.args.root.now) qs (telling c.args.known.now) (telling c.found_from.new.known)) (sym (ap queries_of_test c.in-Exists.is ∙ queries-Exists c.in-Exists.start c.in-Exists.segments)) c.in_ok-found-in-Exists.ensures.passed

pub value_of-found_from-requires : goal.value_of-found_from-requires
value_of-found_from-requires g t c = λ κs le. (search (rules, the_lemmas), (search rules, subst (λ qs. Fits (setting_of (g.P.Patterns.patterns c.args.rx.now) c.args.root.now) qs (telling c.args.known.now).1) (ap queries_of_operand c.in-Query.is ∙ queries-Query c.in-Query.start c.in-Query.segments) c.requires))

pub value_of-returns-in_ok-found-in-Query-clause-passed : goal.value_of-returns-in_ok-found-in-Query-clause-passed
value_of-returns-in_ok-found-in-Query-clause-passed g t c = subst (λ qs. Passed (setting_of (g.P.Patterns.patterns c.args.rx.now) c.args.root.now) qs (telling c.args.known.now) (telling c.found_from.new.known)) (sym (ap queries_of_operand c.in-Query.is ∙ queries-Query c.in-Query.start c.in-Query.segments)) c.in_ok-found-in-Query.ensures.passed

pub value_of-value_of-requires : goal.value_of-value_of-requires
value_of-value_of-requires g t c = λ κs le. (search (rules, the_lemmas), (search rules, subst (λ qs. Fits (setting_of (g.P.Patterns.patterns c.args.rx.now) c.args.root.now) qs (telling c.args.known.now).1) (ap queries_of_operand c.in-Length.is ∙ queries-Length c.in-Length.operand ∙ ap queries_of_operand (sym c.get.ensures)) c.requires))

pub value_of-returns-in_ok-worth-in-Length-clause-passed : goal.value_of-returns-in_ok-worth-in-Length-clause-passed
value_of-returns-in_ok-worth-in-Length-clause-passed g t c = subst (λ qs. Passed (setting_of (g.P.Patterns.patterns c.args.rx.now) c.args.root.now) qs (telling c.args.known.now) (telling c.value_of.new.known)) (sym (ap queries_of_operand c.in-Length.is ∙ queries-Length c.in-Length.operand ∙ ap queries_of_operand (sym c.get.ensures))) c.in_ok-worth-in-Length.ensures.passed

pub value_of-found_from-requires-in-Count : goal.value_of-found_from-requires-in-Count
value_of-found_from-requires-in-Count g t c = λ κs le. (search (rules, the_lemmas), (search rules, subst (λ qs. Fits (setting_of (g.P.Patterns.patterns c.args.rx.now) c.args.root.now) qs (telling c.args.known.now).1) (ap queries_of_operand c.in-Count.is ∙ queries-Count c.in-Count.start c.in-Count.segments) c.requires))

pub value_of-returns-in_ok-found-in-Count-clause-passed : goal.value_of-returns-in_ok-found-in-Count-clause-passed
value_of-returns-in_ok-found-in-Count-clause-passed g t c = subst (λ qs. Passed (setting_of (g.P.Patterns.patterns c.args.rx.now) c.args.root.now) qs (telling c.args.known.now) (telling c.found_from-in-Count.new.known)) (sym (ap queries_of_operand c.in-Count.is ∙ queries-Count c.in-Count.start c.in-Count.segments)) c.in_ok-found-in-Count.ensures.passed

pub value_of-found_from-requires-in-Value : goal.value_of-found_from-requires-in-Value
value_of-found_from-requires-in-Value g t c = λ κs le. (search (rules, the_lemmas), (search rules, subst (λ qs. Fits (setting_of (g.P.Patterns.patterns c.args.rx.now) c.args.root.now) qs (telling c.args.known.now).1) (ap queries_of_operand c.in-Value.is ∙ queries-Value c.in-Value.start c.in-Value.segments) c.requires))

pub value_of-returns-in_ok-found-in-Value-clause-passed : goal.value_of-returns-in_ok-found-in-Value-clause-passed
value_of-returns-in_ok-found-in-Value-clause-passed g t c = subst (λ qs. Passed (setting_of (g.P.Patterns.patterns c.args.rx.now) c.args.root.now) qs (telling c.args.known.now) (telling c.found_from-in-Value.new.known)) (sym (ap queries_of_operand c.in-Value.is ∙ queries-Value c.in-Value.start c.in-Value.segments)) c.in_ok-found-in-Value.ensures.passed

pub value_of-returns-in-Null-clause-passed : goal.value_of-returns-in-Null-clause-passed
value_of-returns-in-Null-clause-passed g t c = subst (λ qs. Passed (setting_of (g.P.Patterns.patterns c.args.rx.now) c.args.root.now) qs (telling c.args.known.now) (telling c.args.known.now)) (sym (ap queries_of_operand c.in-Null.is ∙ queries-Null)) (passed_none (setting_of (g.P.Patterns.patterns c.args.rx.now) c.args.root.now) (telling c.args.known.now))

pub value_of-returns-in-Flag-clause-passed : goal.value_of-returns-in-Flag-clause-passed
value_of-returns-in-Flag-clause-passed g t c = subst (λ qs. Passed (setting_of (g.P.Patterns.patterns c.args.rx.now) c.args.root.now) qs (telling c.args.known.now) (telling c.args.known.now)) (sym (ap queries_of_operand c.in-Flag.is ∙ queries-Flag c.in-Flag.b)) (passed_none (setting_of (g.P.Patterns.patterns c.args.rx.now) c.args.root.now) (telling c.args.known.now))

pub value_of-returns-in-Int-clause-passed : goal.value_of-returns-in-Int-clause-passed
value_of-returns-in-Int-clause-passed g t c = subst (λ qs. Passed (setting_of (g.P.Patterns.patterns c.args.rx.now) c.args.root.now) qs (telling c.args.known.now) (telling c.args.known.now)) (sym (ap queries_of_operand c.in-Int.is ∙ queries-Int c.in-Int.n)) (passed_none (setting_of (g.P.Patterns.patterns c.args.rx.now) c.args.root.now) (telling c.args.known.now))

pub value_of-returns-in-Text-clause-passed : goal.value_of-returns-in-Text-clause-passed
value_of-returns-in-Text-clause-passed g t c = subst (λ qs. Passed (setting_of (g.P.Patterns.patterns c.args.rx.now) c.args.root.now) qs (telling c.args.known.now) (telling c.args.known.now)) (sym (ap queries_of_operand c.in-Text.is ∙ queries-Text c.in-Text.text)) (passed_none (setting_of (g.P.Patterns.patterns c.args.rx.now) c.args.root.now) (telling c.args.known.now))

pub holds-value_of-requires : goal.holds-value_of-requires
holds-value_of-requires g t c = λ κs le. (search (rules, the_lemmas), (search rules, fits_first (setting_of (g.P.Patterns.patterns c.args.rx.now) c.args.root.now) (queries_of_operand c.in-Compare.left) (queries_of_operand c.in-Compare.right) (telling c.args.known.now).1 (subst (λ qs. Fits (setting_of (g.P.Patterns.patterns c.args.rx.now) c.args.root.now) qs (telling c.args.known.now).1) (ap queries_of_test c.in-Compare.is ∙ queries-Compare c.in-Compare.left c.in-Compare.comparison c.in-Compare.right) c.requires)))

pub holds-value_of-requires-in-Compare : goal.holds-value_of-requires-in-Compare
holds-value_of-requires-in-Compare g t c = λ κs le. (search (rules, the_lemmas), (search rules, fits_then (setting_of (g.P.Patterns.patterns c.args.rx.now) c.args.root.now) (setting_of (g.P.Patterns.patterns c.value_of.new.rx) c.args.root.now) (same_setting (g.P.Patterns.patterns c.args.rx.now) (g.P.Patterns.patterns c.value_of.new.rx) c.args.root.now c.in_ok-left-in-Compare.ensures.asked) (queries_of_operand c.in-Compare.left) (queries_of_operand c.in-Compare.right) (telling c.args.known.now) (telling c.value_of.new.known) (subst (λ qs. Fits (setting_of (g.P.Patterns.patterns c.args.rx.now) c.args.root.now) qs (telling c.args.known.now).1) (ap queries_of_test c.in-Compare.is ∙ queries-Compare c.in-Compare.left c.in-Compare.comparison c.in-Compare.right) c.requires) c.in_ok-left-in-Compare.ensures.passed))

pub holds-returns-in_ok-right-in-Compare-clause-passed : goal.holds-returns-in_ok-right-in-Compare-clause-passed
holds-returns-in_ok-right-in-Compare-clause-passed g t c = subst (λ qs. Passed (setting_of (g.P.Patterns.patterns c.args.rx.now) c.args.root.now) qs (telling c.args.known.now) (telling c.value_of-in-Compare.new.known)) (sym (ap queries_of_test c.in-Compare.is ∙ queries-Compare c.in-Compare.left c.in-Compare.comparison c.in-Compare.right)) (passed_then (setting_of (g.P.Patterns.patterns c.args.rx.now) c.args.root.now) (setting_of (g.P.Patterns.patterns c.value_of.new.rx) c.args.root.now) (same_setting (g.P.Patterns.patterns c.args.rx.now) (g.P.Patterns.patterns c.value_of.new.rx) c.args.root.now c.in_ok-left-in-Compare.ensures.asked) (queries_of_operand c.in-Compare.left) (queries_of_operand c.in-Compare.right) (telling c.args.known.now) (telling c.value_of.new.known) (telling c.value_of-in-Compare.new.known) c.in_ok-left-in-Compare.ensures.passed c.in_ok-right-in-Compare.ensures.passed)

pub holds-value_of-requires-in-Match : goal.holds-value_of-requires-in-Match
holds-value_of-requires-in-Match g t c = λ κs le. (search (rules, the_lemmas), (search rules, fits_first (setting_of (g.P.Patterns.patterns c.args.rx.now) c.args.root.now) (queries_of_operand c.in-Match.text) (queries_of_operand c.in-Match.pattern) (telling c.args.known.now).1 (subst (λ qs. Fits (setting_of (g.P.Patterns.patterns c.args.rx.now) c.args.root.now) qs (telling c.args.known.now).1) (ap queries_of_test c.in-Match.is ∙ queries-Match c.in-Match.text c.in-Match.pattern) c.requires)))

pub holds-value_of-requires-in-Match-2 : goal.holds-value_of-requires-in-Match-2
holds-value_of-requires-in-Match-2 g t c = λ κs le. (search (rules, the_lemmas), (search rules, fits_then (setting_of (g.P.Patterns.patterns c.args.rx.now) c.args.root.now) (setting_of (g.P.Patterns.patterns c.value_of-in-Match.new.rx) c.args.root.now) (same_setting (g.P.Patterns.patterns c.args.rx.now) (g.P.Patterns.patterns c.value_of-in-Match.new.rx) c.args.root.now c.in_ok-text-in-Match.ensures.asked) (queries_of_operand c.in-Match.text) (queries_of_operand c.in-Match.pattern) (telling c.args.known.now) (telling c.value_of-in-Match.new.known) (subst (λ qs. Fits (setting_of (g.P.Patterns.patterns c.args.rx.now) c.args.root.now) qs (telling c.args.known.now).1) (ap queries_of_test c.in-Match.is ∙ queries-Match c.in-Match.text c.in-Match.pattern) c.requires) c.in_ok-text-in-Match.ensures.passed))

pub holds-returns-in_ok-pattern-in-Match-clause-passed : goal.holds-returns-in_ok-pattern-in-Match-clause-passed
holds-returns-in_ok-pattern-in-Match-clause-passed g t c = on_ok _ (subst (λ qs. Passed (setting_of (g.P.Patterns.patterns c.args.rx.now) c.args.root.now) qs (telling c.args.known.now) (telling c.value_of-in-Match-2.new.known)) (sym (ap queries_of_test c.in-Match.is ∙ queries-Match c.in-Match.text c.in-Match.pattern)) (passed_then (setting_of (g.P.Patterns.patterns c.args.rx.now) c.args.root.now) (setting_of (g.P.Patterns.patterns c.value_of-in-Match.new.rx) c.args.root.now) (same_setting (g.P.Patterns.patterns c.args.rx.now) (g.P.Patterns.patterns c.value_of-in-Match.new.rx) c.args.root.now c.in_ok-text-in-Match.ensures.asked) (queries_of_operand c.in-Match.text) (queries_of_operand c.in-Match.pattern) (telling c.args.known.now) (telling c.value_of-in-Match.new.known) (telling c.value_of-in-Match-2.new.known) c.in_ok-text-in-Match.ensures.passed c.in_ok-pattern-in-Match.ensures.passed))

pub holds-value_of-requires-in-Search : goal.holds-value_of-requires-in-Search
holds-value_of-requires-in-Search g t c = λ κs le. (search (rules, the_lemmas), (search rules, fits_first (setting_of (g.P.Patterns.patterns c.args.rx.now) c.args.root.now) (queries_of_operand c.in-Search.text) (queries_of_operand c.in-Search.pattern) (telling c.args.known.now).1 (subst (λ qs. Fits (setting_of (g.P.Patterns.patterns c.args.rx.now) c.args.root.now) qs (telling c.args.known.now).1) (ap queries_of_test c.in-Search.is ∙ queries-Search c.in-Search.text c.in-Search.pattern) c.requires)))

pub holds-value_of-requires-in-Search-2 : goal.holds-value_of-requires-in-Search-2
holds-value_of-requires-in-Search-2 g t c = λ κs le. (search (rules, the_lemmas), (search rules, fits_then (setting_of (g.P.Patterns.patterns c.args.rx.now) c.args.root.now) (setting_of (g.P.Patterns.patterns c.value_of-in-Search.new.rx) c.args.root.now) (same_setting (g.P.Patterns.patterns c.args.rx.now) (g.P.Patterns.patterns c.value_of-in-Search.new.rx) c.args.root.now c.in_ok-text-in-Search.ensures.asked) (queries_of_operand c.in-Search.text) (queries_of_operand c.in-Search.pattern) (telling c.args.known.now) (telling c.value_of-in-Search.new.known) (subst (λ qs. Fits (setting_of (g.P.Patterns.patterns c.args.rx.now) c.args.root.now) qs (telling c.args.known.now).1) (ap queries_of_test c.in-Search.is ∙ queries-Search c.in-Search.text c.in-Search.pattern) c.requires) c.in_ok-text-in-Search.ensures.passed))

pub holds-returns-in_ok-pattern-in-Search-clause-passed : goal.holds-returns-in_ok-pattern-in-Search-clause-passed
holds-returns-in_ok-pattern-in-Search-clause-passed g t c = on_ok _ (subst (λ qs. Passed (setting_of (g.P.Patterns.patterns c.args.rx.now) c.args.root.now) qs (telling c.args.known.now) (telling c.value_of-in-Search-2.new.known)) (sym (ap queries_of_test c.in-Search.is ∙ queries-Search c.in-Search.text c.in-Search.pattern)) (passed_then (setting_of (g.P.Patterns.patterns c.args.rx.now) c.args.root.now) (setting_of (g.P.Patterns.patterns c.value_of-in-Search.new.rx) c.args.root.now) (same_setting (g.P.Patterns.patterns c.args.rx.now) (g.P.Patterns.patterns c.value_of-in-Search.new.rx) c.args.root.now c.in_ok-text-in-Search.ensures.asked) (queries_of_operand c.in-Search.text) (queries_of_operand c.in-Search.pattern) (telling c.args.known.now) (telling c.value_of-in-Search.new.known) (telling c.value_of-in-Search-2.new.known) c.in_ok-text-in-Search.ensures.passed c.in_ok-pattern-in-Search.ensures.passed))
