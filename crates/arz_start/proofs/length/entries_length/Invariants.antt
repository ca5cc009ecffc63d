use Rattle.std.proofs.Common.{◌≡◌, ℕ, ◌+◌, map, length}
use Rattle.arz_wire.specs.Spelling.{number, member_spellings}
use Rattle.arz_start.specs.Lengths.{Measures}
use Rattle.arz_start.specs.StartTree.{seen_entry, seen_member}
use Rattle.arz_start.proofs.length.entries_length.Given as goal

abbrev pub invariant-loop-name : goal.invariant-loop-name
invariant-loop-name l = (a : ℕ) × Measures l.total a × (a + length (member_spellings (map seen_member (map seen_entry l.name-iterator))) ≡ 1 + length (number (length l.fn.found.entries)) + length (member_spellings (map seen_member (map seen_entry l.fn.found.entries))))
