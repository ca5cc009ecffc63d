use Rattle.arz_http.proofs.OneMessage.{close_message, close_unended}
use Rattle.arz_http.proofs.replies.judged_to_close.Goals as goal

pub returns-then-closed : goal.returns-then-closed
returns-then-closed c = close_message c.args.head_only c.args.closed c.args.message.now c.args.start c.requires c.if-closed.true

pub returns-else-closed : goal.returns-else-closed
returns-else-closed c = close_unended c.args.head_only c.args.closed c.args.message.now c.args.start c.requires c.if-closed.false
