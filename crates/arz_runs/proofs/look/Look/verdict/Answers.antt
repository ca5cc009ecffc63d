use Rattle.std.proofs.Common.{Bool, ap, subst, ◌∙◌}
use Rattle.arz_path.specs.Outcome.{Outcome}
use Rattle.arz_cond.specs.Holding.{Answers}
use Rattle.arz_scope.specs.Scopes.{found}
use Rattle.arz_scope.specs.Speaking.{Speaking, run_of, attempt_of}
use Rattle.arz_actions.specs.Tests.{all_met}
use Rattle.arz_relation.specs.Documents.{criteria_of}
use Rattle.arz_runs.specs.Readable.{are_readable}
use Rattle.arz_runs.specs.Scenes.{scene, speaks, own_of}
use Rattle.arz_runs.proofs.Asking.{all_read, verdict_same, asks_by_tests, not_empty}
use Rattle.arz_runs.proofs.look.Look.verdict.Goals as goal

pub all_hold-requires : goal.all_hold-requires
all_hold-requires g c = all_read c.as_slice-tests.result.now (ap are_readable c.as_slice-tests.ensures ∙ c.requires.step.planned.tests_read)

pub returns-clause-says : goal.returns-clause-says
returns-clause-says g c =
    let look = c.args.self.now in
    let old = g.P.Patterns.patterns c.args.rx.now in
    let new = g.P.Patterns.patterns c.all_hold.new.rx in
    let tests = c.as_slice-tests.result.now in
    let planned = c.requires.step.planned in
    subst (λ (o : Outcome Bool). Answers c.all_hold.result o old new)
    (ap (λ (z : Speaking). all_met old.told (found (run_of z) (attempt_of z.exchange z.inner)) tests) c.in_ok-scope.ensures
    ∙ verdict_same old.told (speaks (scene look) (own_of c.args.own)) c.args.plain tests (criteria_of c.args.planned.now.step.now) (c.as_slice-tests.ensures ∙ planned.tests) (not_empty tests c.is_empty.result c.is_empty.ensures c.if-is_empty.false))
    c.all_hold.ensures.says

pub returns-clause-pattern : goal.returns-clause-pattern
returns-clause-pattern g c = λ h.
    let step = c.requires.step in
    asks_by_tests c.args.self.now.ground.now.bundle.now c.args.self.now.frame.now.workflow step.workflow c.args.planned.now.step.now step.place step.named step.at
    c.as_slice-tests.result.now (c.as_slice-tests.ensures ∙ step.planned.tests) (c.all_hold.ensures.matched h)
