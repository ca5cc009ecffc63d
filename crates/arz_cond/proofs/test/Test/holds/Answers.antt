use Rattle.std.proofs.Common.{false, subst}
use Rattle.arz_cond.specs.Holding.{SaysOf}
use Rattle.arz_cond.proofs.Contract.{one-reading}
use Rattle.arz_cond.proofs.OneForm.{one_form, says_meaning}
use Rattle.arz_cond.proofs.test.Test.holds.Goals as goal

pub returns-clause-says : goal.returns-clause-says
returns-clause-says g c meant means =
    let criterion = c.args.self.now in
    let found = g.S.Scope.found c.args.scope.now in
    let old = g.P.Patterns.patterns c.args.rx.now in
    let new = g.P.Patterns.patterns c.parsed_holds.new.rx in
    let one = one_form (one-reading false) criterion c.parsed.result.now means.parsed c.parsed.ensures.kind c.parsed.ensures.spells means.kind means.spells in
    let says = rw c.condition.ensures at c.parsed_holds.ensures.says in
    says_meaning means.parsed criterion.condition found c.parsed_holds.result old new meant
    (subst (λ q. SaysOf q criterion.condition found c.parsed_holds.result old new) one says) means.meaning
