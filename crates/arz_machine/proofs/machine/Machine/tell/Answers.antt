use Rattle.std.proofs.Common.{ap, refl, ◌∙◌}
use Rattle.arz_flow.specs.declared.answers.Answer.TheVariants.{Reply as Replied}
use Rattle.arz_machine.specs.At.{standing}
use Rattle.arz_machine.specs.Resting.{rest_of}
use Rattle.arz_machine.specs.States.{verdict_in}
use Rattle.arz_machine.proofs.Judging.{rose_by, wide_says}
use Rattle.arz_machine.proofs.MachineAt.{step_inside, taken_run, wide_run}
use Rattle.arz_machine.proofs.machine.Machine.tell.Goals as goal
use Rattle.arz_machine.proofs.machine.Machine.tell.Goals.{in-Ok+in_ok-fact-in-Ok+in_ok-state-in-Ok, in-Err-TooWide+in_ok-state-in-Err-TooWide}

pub returns-in-Err-Pattern-clause-pattern : goal.returns-in-Err-Pattern-clause-pattern
returns-in-Err-Pattern-clause-pattern g c = λ _.
    let m = standing c.args.self.now in
    let run = c.args.self.now.run in
    let old = g.P.Patterns.patterns c.args.rx.now in
    let new = g.P.Patterns.patterns c.verdict.new.rx in
    rose_by c.in-Err-Pattern.field-0 run.steps.now m.step (λ step. verdict_in old.told m.bundle m.facts step c.in-Sends.ready.request c.args.reply.now) old new
    (step_inside m.rest c.in-Sends.ready.request m.step _ (ap rest_of c.in-Sends.is) c.args.self.now.inside) c.in-Err-Pattern.ensures.says c.in-Err-Pattern.field-0-is

pub returns-clause-taken : goal.returns-clause-taken
returns-clause-taken g c = λ b r at.
    let told = (g.P.Patterns.patterns c.args.rx.now).told in
    let m = standing c.args.self.now in
    let run = c.args.self.now.run in
    let q = c.in-Sends.ready.request in
    let y = c.args.reply.now in
    elim c.match-verdict.branch [
      | in-Ok+in_ok-fact-in-Ok+in_ok-state-in-Ok w ↦
          let goes = w.in_ok-state-in-Ok.ensures in
          taken_run told m b r at run.steps.now run.listed q y (Replied y) (ap rest_of c.in-Sends.is) c.args.self.now.inside refl _ w.in_ok-fact-in-Ok.fact w.in-Ok.succeeded
          w.in-Ok.ensures.says w.in_ok-fact-in-Ok.ensures.fact
          (ap (λ x. x.1.0.bundle.now) w.self-is ∙ ap (λ x. x.now) goes.bundle) (ap (λ x. x.1.0.facts) w.self-is ∙ goes.facts) refl (ap rest_of w.state-is ∙ goes.state)
      | in-Err-TooWide+in_ok-state-in-Err-TooWide w ↦
          wide_run told m b r at run.steps.now run.listed q y (Replied y) (ap rest_of c.in-Sends.is) c.args.self.now.inside refl _
          (λ step there. wide_says w.in-Err-TooWide.field-0 _ _ _ w.in-Err-TooWide.field-0-is (w.in-Err-TooWide.ensures.says step there))
          (ap (λ x. x.1.0.bundle.now) w.self-is) refl
          (λ step there. ap rest_of w.state-is ∙ w.in_ok-state-in-Err-TooWide.ensures.state step there)
    ]
