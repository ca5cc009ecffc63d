use Rattle.std.proofs.Common.{◌≡◌, ◌++◌, map}
use Rattle.arz_relation.specs.Requests.{member_of}
use Rattle.arz_runs.specs.Entries.{entry_of}
use Rattle.arz_runs.proofs.inputs.members.Given as goal

abbrev pub invariant-loop-name : goal.invariant-loop-name
invariant-loop-name l = (l.members.items ≡ map member_of (map entry_of l.yielded)) × (l.fn.values.entries ≡ l.yielded ++ l.name-iterator)
