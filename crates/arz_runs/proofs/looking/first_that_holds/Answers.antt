use Rattle.arz_path.proofs.Faults.{asked_then}
use Rattle.arz_cond.specs.declared.cause.CondFault.TheVariants as pattern_fault
use Rattle.arz_runs.proofs.Choices.{read_there, tried_there, takes_it, passes_it, exits, same_fault}
use Rattle.arz_runs.proofs.looking.first_that_holds.Goals as goal

pub may_be_taken-requires : goal.may_be_taken-requires
may_be_taken-requires g c =
    let action = c.index-actions-index.result in
    rw c.deref.ensures (read_there c.args.actions.now c.loop-index.index action c.loop-index-test.true c.index-actions-index.is c.requires)

pub returns-in_err-may_be_taken-clause-chooses : goal.returns-in_err-may_be_taken-clause-chooses
returns-in_err-may_be_taken-clause-chooses g c =
    let first = g.P.Patterns.patterns c.args.rx.now in
    let old = g.P.Patterns.patterns c.loop-index.rx in
    let new = g.P.Patterns.patterns c.may_be_taken.new.rx in
    let found = g.S.Scope.found c.args.scope.now in
    let says = rw c.deref.ensures at c.in_err-may_be_taken.ensures.says in
    exits found c.args.counts.now c.args.actions.now first old new c.loop-index.invariant.asked c.loop-index.index c.index-actions-index.result c.loop-index-test.true c.index-actions-index.is
    c.from_residual.result c.in_err-may_be_taken.field-0.0 c.from_residual.ensures.1 c.loop-index.invariant.covers says

pub returns-in_err-may_be_taken-clause-matched : goal.returns-in_err-may_be_taken-clause-matched
returns-in_err-may_be_taken-clause-matched g c = λ h.
    let fault = c.in_err-may_be_taken.field-0.0 in
    let matched = rw c.deref.ensures at c.in_err-may_be_taken.ensures.matched in
    tried_there c.args.actions.now c.loop-index.index c.index-actions-index.result c.loop-index-test.true c.index-actions-index.is
    (matched (same_fault c.from_residual.result fault pattern_fault.Pattern c.from_residual.ensures.1 h))

pub returns-then-branch-clause-chooses : goal.returns-then-branch-clause-chooses
returns-then-branch-clause-chooses g c =
    let first = g.P.Patterns.patterns c.args.rx.now in
    let old = g.P.Patterns.patterns c.loop-index.rx in
    let new = g.P.Patterns.patterns c.may_be_taken.new.rx in
    let found = g.S.Scope.found c.args.scope.now in
    let says = rw (c.if-branch.true, c.deref.ensures) at c.in_ok-may_be_taken.ensures.says in
    takes_it found c.args.counts.now c.args.actions.now first old new c.loop-index.invariant.asked c.loop-index.index c.index-actions-index.result c.loop-index-test.true c.index-actions-index.is
    c.loop-index.invariant.covers says

pub loop-index-preserved : goal.loop-index-preserved
loop-index-preserved g c =
    let first = g.P.Patterns.patterns c.args.rx.now in
    let old = g.P.Patterns.patterns c.loop-index.rx in
    let new = g.P.Patterns.patterns c.may_be_taken.new.rx in
    let found = g.S.Scope.found c.args.scope.now in
    let says = rw (c.if-branch.false, c.deref.ensures) at c.in_ok-may_be_taken.ensures.says in
    record {
      covers = passes_it found c.args.counts.now c.args.actions.now first old new c.loop-index.invariant.asked c.loop-index.index c.index-actions-index.result c.loop-index-test.true c.index-actions-index.is
          c.loop-index.invariant.covers says;
      asked = asked_then first old new c.loop-index.invariant.asked c.in_ok-may_be_taken.ensures.asked;
    }
