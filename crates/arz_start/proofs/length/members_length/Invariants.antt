use Rattle.std.proofs.Common.{◌≡◌, ℕ, ◌+◌, drop, length}
use Rattle.arz_wire.specs.Spelling.{number, member_spellings}
use Rattle.arz_start.specs.Lengths.{Measures}
use Rattle.arz_start.proofs.length.members_length.Given as goal

abbrev pub invariant-loop-member : goal.invariant-loop-member
invariant-loop-member l = (a : ℕ) × Measures l.total a × (a + length (member_spellings (drop l.member-index l.member-items)) ≡ 1 + length (number (length l.members)) + length (member_spellings l.members))
