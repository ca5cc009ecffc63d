use Rattle.std.proofs.Common.{◌≡◌, ◌↔◌, List, ◌∷◌, [], ◌++◌, ap, sym, ◌∙◌, refl, subst, Err, false}
use Rattle.std.specs.Result.{OnOk}
use Rattle.arz_flow.specs.declared.answers.Answer.{Answer}
use Rattle.arz_flow.specs.declared.bundle.Bundle.{Bundle}
use Rattle.arz_flow.specs.Executions.{end}
use Rattle.arz_machine.specs.At.{standing, At}
use Rattle.arz_machine.specs.Rests.{takes}
use Rattle.arz_machine.specs.declared.machine.MachineFault.TheVariants.{WrongKind}
use Rattle.arz_machine.proofs.MachineAt.{takes_as, takes_no_served}
use Rattle.arz_machine.proofs.machine.Machine.answer.Goals as goal

pub returns-in-Reply-clause-taken : goal.returns-in-Reply-clause-taken
returns-in-Reply-clause-taken g c =
    let told = (g.P.Patterns.patterns c.args.rx.now).told in
    subst (λ a. OnOk c.tell.result ((b : Bundle) (r : List Answer) → At told (standing c.args.self.now) b r → At told (standing c.tell.new.self) b (r ++ a ∷ []))) (sym c.in-Reply.is) c.tell.ensures.taken

pub returns-in-Reply-clause-wrong_kind : goal.returns-in-Reply-clause-wrong_kind
returns-in-Reply-clause-wrong_kind g c = λ told b r at t.
    subst (λ z. (c.tell.result ≡ Err WrongKind) ↔ (z ≡ false)) (sym (takes_as told (standing c.args.self.now) b r at c.in-Reply.reply c.args.answer c.in-Reply.is t)) c.tell.ensures.wrong_kind

pub returns-in-Served-clause-wrong_kind : goal.returns-in-Served-clause-wrong_kind
returns-in-Served-clause-wrong_kind g c = λ told b r at t.
    (λ _. ap (takes (end told b r)) c.in-Served.is ∙ takes_no_served told (standing c.args.self.now) b r at t, λ _. refl)
