use Rattle.std.proofs.Common.{inl, inr}
use Rattle.arz_http.proofs.OneMessage.{front_not_whole, whole_message}
use Rattle.arz_http.proofs.replies.judged_whole.Goals as goal

pub returns-then-closed : goal.returns-then-closed
returns-then-closed c = front_not_whole c.args.head_only c.args.closed c.args.message.now c.args.until c.requires (inl c.if-closed.true)

pub returns-then-until-message : goal.returns-then-until-message
returns-then-until-message c = front_not_whole c.args.head_only c.args.closed c.args.message.now c.args.until c.requires (inr c.if-until-message.true)

pub returns : goal.returns
returns c = whole_message c.args.head_only c.args.closed c.args.message.now c.args.until c.requires c.if-closed.false c.if-until-message.false
