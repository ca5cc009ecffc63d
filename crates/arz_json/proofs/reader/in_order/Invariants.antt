use Rattle.std.proofs.Common.{◌≡◌, ◌++◌}
use Rattle.arz_json.specs.Reading.{entries_tree}
use Rattle.arz_json.proofs.reader.in_order.Given as goal

abbrev pub invariant-loop-name : goal.invariant-loop-name
invariant-loop-name l = l.members.items ++ entries_tree l.name-iterator ≡ entries_tree l.fn.found.entries
