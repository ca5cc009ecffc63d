use Rattle.std.proofs.Common.{◌≡◌, ◌+◌, drop, length}
use Rattle.arz_wire.specs.Spelling.{number, spellings, member_spellings}
use Rattle.arz_wire.proofs.measure.+measure.Given as goal

abbrev pub invariant-items_length-loop-item : goal.invariant-items_length-loop-item
invariant-items_length-loop-item l = l.total + length (spellings (drop l.item-index l.item-items)) ≡ 1 + length (number (length l.item-items)) + length (spellings l.item-items)

abbrev pub invariant-members_length-loop-member : goal.invariant-members_length-loop-member
invariant-members_length-loop-member l = l.total + length (member_spellings (drop l.member-index l.member-items)) ≡ 1 + length (number (length l.member-items)) + length (member_spellings l.member-items)
