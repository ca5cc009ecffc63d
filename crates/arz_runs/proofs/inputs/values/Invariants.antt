use Rattle.std.proofs.Common.{◌≡◌, [], All, drop}
use Rattle.std.specs.BTreeMap.{values}
use Rattle.arz_scope.specs.Shallow.{IsShallow}
use Rattle.arz_relation.specs.Requests.{all_filled}
use Rattle.arz_runs.specs.Entries.{entries_in}
use Rattle.arz_runs.proofs.Filling.{among}
use Rattle.arz_runs.proofs.inputs.values.Given as goal

-- the values so far, and those that are left
abbrev pub invariant-loop-parameter : goal.invariant-loop-parameter
invariant-loop-parameter g l =
    let found = g.S.Scope.found l.scope in
    record {
      filled : among [] (all_filled found l.given) ≡ among (entries_in l.values) (all_filled found (drop l.parameter-index l.given));
      shallow : All IsShallow (values l.values);
    }
