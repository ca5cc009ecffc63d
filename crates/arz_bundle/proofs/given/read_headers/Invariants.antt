use Rattle.std.proofs.Common.{◌≡◌, map, take}
use Rattle.arz_bundle.specs.Replies.{header_of}
use Rattle.arz_bundle.proofs.given.read_headers.Given as goal

abbrev pub invariant-loop-member : goal.invariant-loop-member
invariant-loop-member l = l.headers.items ≡ map header_of (take l.member-index l.members)
