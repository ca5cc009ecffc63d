use Rattle.std.proofs.Common.{◌≡◌, map, take}
use Rattle.arz_bundle.specs.Replies.{reply_of}
use Rattle.arz_bundle.proofs.given.read_replies.Given as goal

abbrev pub invariant-loop-item : goal.invariant-loop-item
invariant-loop-item l = l.replies.items ≡ map reply_of (take l.item-index l.items)
