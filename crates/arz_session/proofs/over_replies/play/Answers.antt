use Rattle.std.proofs.Common.{◌++◌, ◌∷◌, [], take, ap, sym, subst}
use Rattle.arz_flow.specs.declared.answers.Answer.TheVariants.{Reply as Replied}
use Rattle.arz_machine.specs.At.{standing, At}
use Rattle.arz_machine.specs.States.{is_sending}
use Rattle.arz_path.proofs.Faults.{asked_same, asked_then}
use Rattle.arz_session.specs.Mock.{answers}
use Rattle.arz_session.proofs.Mocking.{told_nothing, told_next, stopped_next, played_over, played_out}
use Rattle.arz_session.proofs.over_replies.play.Goals as goal

pub loop-reply-init : goal.loop-reply-init
loop-reply-init g c =
    let patterns = g.P.Patterns.patterns c.args.rx.now in
    record {
      told = λ b at. told_nothing patterns.told b _ _ at c.requires;
      asked = asked_same patterns;
    }

pub tell-requires : goal.tell-requires
tell-requires g c = ap is_sending (sym c.in-Send.ensures.rest)

pub loop-reply-preserved : goal.loop-reply-preserved
loop-reply-preserved g c =
    let first = g.P.Patterns.patterns c.args.rx.now in
    let old = g.P.Patterns.patterns c.loop-reply.rx in
    let replies = c.args.replies.now in
    let k = c.loop-reply.reply-index in
    let m = standing c.loop-reply.machine in
    let n = standing c.tell.new.machine in
    let asked = c.loop-reply.invariant.asked in
    record {
      told = λ b at.
          let i = c.loop-reply.invariant.told b at in
          let here = answers (take k replies) in
          let taken = subst (λ t. At t m b here → At t n b (here ++ Replied c.reply-item.result ∷ [])) asked.told (c.in_ok-tell.ensures.taken c.if-branch.false b here) in
          told_next first.told b m replies k c.loop-reply.lines.items i c.reply-item.result c.loop-reply-test.true c.reply-item.is c.in-Send.request.now c.number-n.result c.in_ok-ask-in-Send.ask
          c.number-n.ensures (λ t. c.in-Send.ensures.tells first.told b here i.at t) c.in_ok-ask-in-Send.ensures _ c.in_ok-push.ensures.items n (taken i.at);
      asked = asked_then first old _ asked c.in_ok-tell.ensures.asked;
    }

pub returns-in-Ended-clause-plays : goal.returns-in-Ended-clause-plays
returns-in-Ended-clause-plays g c = λ b at.
    let first = g.P.Patterns.patterns c.args.rx.now in
    let replies = c.args.replies.now in
    let k = c.loop-reply.reply-index in
    let i = c.loop-reply.invariant.told b at in
    played_over first.told b (standing c.loop-reply.machine) replies k c.loop-reply.lines.items i c.in-Ended.field-0.now (λ t. c.in-Ended.ensures.tells first.told b (answers (take k replies)) i.at t)

pub returns-then-branch-clause-plays : goal.returns-then-branch-clause-plays
returns-then-branch-clause-plays g c = λ b at.
    let first = g.P.Patterns.patterns c.args.rx.now in
    let replies = c.args.replies.now in
    let k = c.loop-reply.reply-index in
    let i = c.loop-reply.invariant.told b at in
    stopped_next first.told b (standing c.loop-reply.machine) replies k c.loop-reply.lines.items i c.reply-item.result c.loop-reply-test.true c.reply-item.is c.in-Send.request.now c.number-n.result c.in_ok-ask-in-Send.ask
    c.number-n.ensures (λ t. c.in-Send.ensures.tells first.told b (answers (take k replies)) i.at t) c.in_ok-ask-in-Send.ensures _ c.in_ok-push.ensures.items (standing c.tell.new.machine)
    (sym c.in-Send.ensures.rest) (c.in_ok-tell.ensures.kept c.if-branch.true)

pub returns-clause-plays : goal.returns-clause-plays
returns-clause-plays g c = λ b at.
    let first = g.P.Patterns.patterns c.args.rx.now in
    played_out first.told b (standing c.loop-reply.machine) c.args.replies.now c.loop-reply.reply-index c.loop-reply.lines.items (c.loop-reply.invariant.told b at) c.loop-reply-test.false
