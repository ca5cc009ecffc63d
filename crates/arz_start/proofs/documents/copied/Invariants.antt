use Rattle.std.proofs.Common.{◌≡◌, ◌++◌, map}
use Rattle.arz_start.specs.StartTree.{seen_entry, seen_member}
use Rattle.arz_start.proofs.documents.copied.Given as goal

abbrev pub invariant-loop-name : goal.invariant-loop-name
invariant-loop-name l = l.members.items ++ map seen_member (map seen_entry l.name-iterator) ≡ map seen_member (map seen_entry l.fn.found.entries)
