use Rattle.std.proofs.Common.{◌≡◌, ◌++◌, map}
use Rattle.arz_scope.specs.Fields.{field_from}
use Rattle.arz_scope.proofs.fields.fields_from.Given as goal

abbrev pub invariant-loop-name : goal.invariant-loop-name
invariant-loop-name l = (l.fields.items ≡ map field_from l.yielded) × (l.fn.groups.entries ≡ l.yielded ++ l.name-iterator)
