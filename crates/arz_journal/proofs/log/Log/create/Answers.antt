use Rattle.std.proofs.Common.{◌≡◌, ◌∙◌, false, IsTrue, refl, sym, ap, subst}
use Rattle.arz_journal.specs.Logs.{LogView}
use Rattle.arz_journal.proofs.Firsts.{can_create, made_stands}
use Rattle.arz_journal.proofs.log.Log.create.Goals as goal

pub returns-in_err-put_first-clause-any_moment : goal.returns-in_err-put_first-clause-any_moment
returns-in_err-put_first-clause-any_moment g c = λ live. c.put_first.ensures.any_moment (λ told. can_create c.args.self.now _ (c.requires.ready live told) (c.requires.unopened live))

pub returns-clause-any_moment : goal.returns-clause-any_moment
returns-clause-any_moment g c = λ live. c.put_first.ensures.any_moment (λ told. can_create c.args.self.now _ (c.requires.ready live told) (c.requires.unopened live))

pub returns-clause-ready : goal.returns-clause-ready
returns-clause-ready g c = λ fresh told_now.
    let live : c.args.self.now.is_spent ≡ false = sym (ap (λ (l : LogView). l.is_spent) c.self.view_is) ∙ c.if-self.false in
    let told_then = subst IsTrue c.put_first.ensures.time.tells told_now in
    made_stands _ _ (c.in_ok-put_first.ensures.put (λ told. can_create c.args.self.now _ (c.requires.ready live told) (c.requires.unopened live)) told_then) refl refl refl
