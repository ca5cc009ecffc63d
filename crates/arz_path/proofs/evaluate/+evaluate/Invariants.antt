use Rattle.std.proofs.Common.{◌≡◌, ◌≤◌, ◌∷◌, ◌++◌, [], take, drop, map, length}
use Rattle.arz_path.specs.Outcome.{each, Covers}
use Rattle.arz_path.specs.Tree.{children}
use Rattle.arz_path.specs.Selected.{widest}
use Rattle.arz_path.specs.Spots.{joined, grown, sifted, chosen_at, chosen_each, reached, spots_after_all}
use Rattle.arz_path.specs.Seen.{seen, coming, way, ahead, tested_all}
use Rattle.arz_path.specs.Results.{Asked, setting_of}
use Rattle.arz_path.specs.Absolute.{telling, queries_of_test, queries_of_tests, Fits, Passed}
use Rattle.arz_path.proofs.evaluate.+evaluate.Given as goal

-- what is left to do, from what stands there, is the whole

abbrev pub invariant-nodes_after-loop-segment : goal.invariant-nodes_after-loop-segment
invariant-nodes_after-loop-segment g l =
    let setting = setting_of (g.P.Patterns.patterns l.fn.rx) l.root in
    Covers (spots_after_all setting l.segment-items (seen l.fn.origin ∷ [])) (spots_after_all setting (drop l.segment-index l.segment-items) (map seen l.nodes.items))
    × Asked (g.P.Patterns.patterns l.fn.rx) (g.P.Patterns.patterns l.rx)

abbrev pub invariant-after_segment-loop-node : goal.invariant-after_segment-loop-node
invariant-after_segment-loop-node g l =
    let setting = setting_of (g.P.Patterns.patterns l.fn.rx) l.root in
    Covers (grown [] (each (reached setting l.segment) (map seen l.nodes))) (grown (map seen l.out.items) (each (reached setting l.segment) (map seen (drop l.node-index l.nodes))))
    × Asked (g.P.Patterns.patterns l.fn.rx) (g.P.Patterns.patterns l.rx)
    × (length l.out.items ≤ widest)

abbrev pub invariant-choose_below-nodes : goal.invariant-choose_below-nodes
invariant-choose_below-nodes g l =
    let setting = setting_of (g.P.Patterns.patterns l.fn.rx) l.root in
    Covers (grown (map seen l.fn.out.items) (chosen_each setting l.selectors (ahead (way l.fn.walk)))) (grown (map seen l.out.items) (chosen_each setting l.selectors (ahead (way l.walk))))
    × Asked (g.P.Patterns.patterns l.fn.rx) (g.P.Patterns.patterns l.rx)
    × (length l.out.items ≤ widest)

abbrev pub decreases-choose_below-nodes : goal.decreases-choose_below-nodes
decreases-choose_below-nodes g l = length (ahead (way l.walk))

abbrev pub invariant-choose-loop-selector : goal.invariant-choose-loop-selector
invariant-choose-loop-selector g l =
    let setting = setting_of (g.P.Patterns.patterns l.fn.rx) l.root in
    Covers (grown (map seen l.fn.out.items) (chosen_at setting l.selector-items (way l.fn.walk).0)) (grown (map seen l.out.items) (chosen_at setting (drop l.selector-index l.selector-items) (way l.fn.walk).0))
    × Asked (g.P.Patterns.patterns l.fn.rx) (g.P.Patterns.patterns l.rx)
    × (length l.out.items ≤ widest)
    × (way l.walk ≡ way l.fn.walk)

abbrev pub invariant-sift-children : goal.invariant-sift-children
invariant-sift-children g l =
    let setting = setting_of (g.P.Patterns.patterns l.fn.rx) l.root in
    Covers (grown (map seen l.fn.out.items) (sifted setting l.test (way l.fn.walk).0 (children (way l.fn.walk).0.1))) (grown (map seen l.out.items) (sifted setting l.test (way l.fn.walk).0 (coming l.children)))
    × Asked (g.P.Patterns.patterns l.fn.rx) (g.P.Patterns.patterns l.rx)
    × (length l.out.items ≤ widest)
    × (way l.walk ≡ way l.fn.walk)
    × Fits setting (queries_of_test l.test) ((telling l.known).0 ++ (telling l.known).1)

abbrev pub decreases-sift-children : goal.decreases-sift-children
decreases-sift-children g l = length (coming l.children)

abbrev pub invariant-hold_each-loop-test : goal.invariant-hold_each-loop-test
invariant-hold_each-loop-test g l =
    let setting = setting_of (g.P.Patterns.patterns l.fn.rx) l.root in
    Covers (tested_all setting l.current l.test-items) (joined l.all.items (tested_all setting l.current (drop l.test-index l.test-items)))
    × Asked (g.P.Patterns.patterns l.fn.rx) (g.P.Patterns.patterns l.rx)
    × Passed setting (queries_of_tests (take l.test-index l.test-items)) (telling l.fn.known) (telling l.known)
