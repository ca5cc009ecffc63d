use Rattle.std.proofs.Common.{Bool, Some, ap, subst, ◌∙◌}
use Rattle.arz_json.specs.declared.Json.TheVariants.{Null}
use Rattle.arz_path.specs.Outcome.{Outcome}
use Rattle.arz_cond.specs.Holding.{Answers}
use Rattle.arz_machine.specs.Spoken.{spoken}
use Rattle.arz_machine.proofs.Entering.{the_step, judged_as}
use Rattle.arz_machine.proofs.Judging.{the_tests, tests_read, asks_by}
use Rattle.arz_machine.proofs.run.Run.verdict.Goals as goal

pub succeeds-requires : goal.succeeds-requires
succeeds-requires g c =
    let run = c.args.self.now in
    let e = c.index-as_slice-index.result in
    tests_read run.bundle.now run.steps.now c.args.index c.as_slice-tests.result.now run.sound run.listed c.requires
    (the_tests run.steps.now run.tests c.as_slice.result.now c.args.index Null e c.as_slice-tests.result.now c.as_slice-tests.ensures c.index-as_slice-index.is c.as_slice.ensures run.read c.requires)

pub returns-clause-says : goal.returns-clause-says
returns-clause-says g c = λ step at.
    let run = c.args.self.now in
    let old = g.P.Patterns.patterns c.args.rx.now in
    let new = g.P.Patterns.patterns c.succeeds.new.rx in
    let e = c.index-as_slice-index.result in
    let tests = c.as_slice-tests.result.now in
    let listed = the_tests run.steps.now run.tests c.as_slice.result.now c.args.index step e tests c.as_slice-tests.ensures c.index-as_slice-index.is c.as_slice.ensures run.read c.requires in
    let meant = judged_as run.bundle.now run.facts _ step (the_step run.steps.now c.args.index step step at) old.told c.in_ok-scope.scope c.args.ready.now.request c.args.reply.now tests
    (c.in_ok-scope.ensures ∙ ap (λ x. spoken run.bundle.now run.facts (Some x)) c.in_ok-exchange.ensures) listed in
    subst (λ (o : Outcome Bool). Answers c.succeeds.result o old new) meant c.succeeds.ensures.says

pub returns-clause-pattern : goal.returns-clause-pattern
returns-clause-pattern g c = λ h.
    let run = c.args.self.now in
    let e = c.index-as_slice-index.result in
    let tests = c.as_slice-tests.result.now in
    asks_by run.bundle.now run.steps.now c.args.index tests run.listed c.requires
    (the_tests run.steps.now run.tests c.as_slice.result.now c.args.index Null e tests c.as_slice-tests.ensures c.index-as_slice-index.is c.as_slice.ensures run.read c.requires)
    (c.succeeds.ensures.matched h)
