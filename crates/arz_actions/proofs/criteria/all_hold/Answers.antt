use Rattle.arz_path.proofs.Faults.{asked_then}
use Rattle.arz_actions.specs.Tests.{all_met}
use Rattle.arz_actions.proofs.Trying.{goes_past, breaks, fails_here, read_at, exit}
use Rattle.arz_actions.proofs.criteria.all_hold.Goals as goal

pub returns-in_err-holds-clause-says : goal.returns-in_err-holds-clause-says
returns-in_err-holds-clause-says g c =
    let first = g.P.Patterns.patterns c.args.rx.now in
    let found = g.S.Scope.found c.args.scope.now in
    let tests = c.args.tests.now in
    let new = g.P.Patterns.patterns c.holds.new.rx in
    let whole = all_met first.told found tests in
    let fault = c.in_err-holds.field-0.0 in
    let test = c.test-item.result in
    exit c.from_residual.result fault whole first new c.from_residual.ensures.1
    (fails_here found tests first (g.P.Patterns.patterns c.loop-test.rx) new c.loop-test.invariant.asked c.loop-test.test-index test c.loop-test-test.true c.test-item.is
    (read_at tests c.loop-test.test-index test c.requires c.loop-test-test.true c.test-item.is) whole c.loop-test.invariant.covers fault c.in_err-holds.ensures.says)

pub returns-then-not-branch-clause-says : goal.returns-then-not-branch-clause-says
returns-then-not-branch-clause-says g c =
    let first = g.P.Patterns.patterns c.args.rx.now in
    let found = g.S.Scope.found c.args.scope.now in
    let tests = c.args.tests.now in
    let test = c.test-item.result in
    let says = rw c.if-not-branch.true at c.in_ok-holds.ensures.says in
    breaks found tests first (g.P.Patterns.patterns c.loop-test.rx) (g.P.Patterns.patterns c.holds.new.rx) c.loop-test.invariant.asked c.loop-test.test-index test c.loop-test-test.true c.test-item.is
    (read_at tests c.loop-test.test-index test c.requires c.loop-test-test.true c.test-item.is) (all_met first.told found tests) c.loop-test.invariant.covers says

pub loop-test-preserved : goal.loop-test-preserved
loop-test-preserved g c =
    let first = g.P.Patterns.patterns c.args.rx.now in
    let found = g.S.Scope.found c.args.scope.now in
    let tests = c.args.tests.now in
    let test = c.test-item.result in
    let says = rw c.if-not-branch.false at c.in_ok-holds.ensures.says in
    record {
      covers = goes_past found tests first (g.P.Patterns.patterns c.loop-test.rx) (g.P.Patterns.patterns c.holds.new.rx) c.loop-test.invariant.asked c.loop-test.test-index test c.loop-test-test.true c.test-item.is
          (read_at tests c.loop-test.test-index test c.requires c.loop-test-test.true c.test-item.is) (all_met first.told found tests) c.loop-test.invariant.covers says;
      asked = asked_then first (g.P.Patterns.patterns c.loop-test.rx) (g.P.Patterns.patterns c.holds.new.rx) c.loop-test.invariant.asked c.in_ok-holds.ensures.asked;
    }
