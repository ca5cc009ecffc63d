use Rattle.std.proofs.Common.{◌≡◌, take}
use Rattle.arz_http.specs.WholeReplies.{headers_at}
use Rattle.arz_http.proofs.replies.headers_of.Given as goal

abbrev pub invariant-loop-line : goal.invariant-loop-line
invariant-loop-line l = l.headers.items ≡ headers_at l.head (take l.line-index l.lines)
