use Rattle.std.proofs.Common.{ap, sym, subst, ◌∙◌}
use Rattle.arz_machine.specs.At.{standing}
use Rattle.arz_session.specs.Mock.{Comes, OnlyWhereRose}
use Rattle.arz_session.specs.Plain.{is_plain}
use Rattle.arz_session.proofs.Mocking.{few_by, came_by, plain_by, rose_by}
use Rattle.arz_session.proofs.over_replies.mock.Goals as goal

pub invariant_of-result : goal.invariant_of-result
invariant_of-result g c =
    let told = (g.P.Patterns.patterns c.args.rx.now).told in
    let b = c.args.bundle.now in
    let pattern = c.in_ok-pattern.pattern in
    record {
      few = few_by told b c.args.replies c.as_slice.result.now (standing c.play.new.machine) c.from_std.result c.play.new.lines.items c.as_slice.ensures c.from_std.ensures c.requires pattern
          (c.in_ok-pattern.ensures.plays b (c.in_ok-machine.ensures told));
      plain = ap is_plain c.outcome.ensures ∙ plain_by pattern c.into_end.result c.into_end.ensures.plain;
    }

pub returns-clause-mock : goal.returns-clause-mock
returns-clause-mock g c = λ t.
    let told = (g.P.Patterns.patterns c.args.rx.now).told in
    let b = c.args.bundle.now in
    let pattern = c.in_ok-pattern.pattern in
    subst (Comes told b c.args.replies c.from_std.result) (sym c.outcome.ensures)
    (came_by told b c.args.replies c.as_slice.result.now (standing c.play.new.machine) c.from_std.result c.play.new.lines.items c.as_slice.ensures c.from_std.ensures pattern
    (c.in_ok-pattern.ensures.plays b (c.in_ok-machine.ensures told)) c.into_end.result (λ r at u. c.into_end.ensures.end told b r at u) t)

pub returns-clause-pattern : goal.returns-clause-pattern
returns-clause-pattern g c =
    let old = g.P.Patterns.patterns c.args.rx.now in
    let b = c.args.bundle.now in
    let is = c.in_ok-pattern.ensures in
    subst (OnlyWhereRose b old (g.P.Patterns.patterns c.play.new.rx)) (sym c.outcome.ensures)
    (rose_by b old (g.P.Patterns.patterns c.play.new.rx) c.in_ok-pattern.pattern c.into_end.result is.rose (λ e. is.asks e b (c.in_ok-machine.ensures old.told)))
