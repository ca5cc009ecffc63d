use Rattle.std.proofs.Common.{◌≡◌, ◌++◌, drop}
use Rattle.arz_scope.specs.Outputs.{outputs_in}
use Rattle.arz_scope.specs.Shallow.{AreShallow}
use Rattle.arz_scope.proofs.output_values.outputs.Given as goal

abbrev pub invariant-loop-output : goal.invariant-loop-output
invariant-loop-output g l =
    (l.given.items ++ outputs_in (g.S.Scope.found l.scope) (drop l.output-index l.output-items) ≡ outputs_in (g.S.Scope.found l.scope) l.output-items)
    × AreShallow l.given.items
