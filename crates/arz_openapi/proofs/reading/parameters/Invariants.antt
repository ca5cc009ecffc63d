use Rattle.std.proofs.Common.{◌≡◌, ◌++◌, drop, codes}
use Rattle.std.specs.List.{filter_map}
use Rattle.arz_json.specs.Look.{items_at}
use Rattle.arz_operation.specs.Named.{parameter_in, listed}
use Rattle.arz_openapi.proofs.reading.parameters.Given as goal

abbrev pub invariant-loop-item : goal.invariant-loop-item
invariant-loop-item l = l.out.items ++ filter_map (parameter_in l.root) (drop l.item-index (items_at (codes "parameters") l.tree)) ≡ listed l.root l.tree
