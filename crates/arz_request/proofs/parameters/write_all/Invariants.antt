use Rattle.std.proofs.Common.{◌≡◌, drop}
use Rattle.arz_request.specs.Parameters.{all_written}
use Rattle.arz_request.proofs.Writing.{behind}
use Rattle.arz_request.proofs.parameters.write_all.Given as goal

abbrev pub invariant-loop-parameter : goal.invariant-loop-parameter
invariant-loop-parameter g l =
    all_written (g.S.Scope.found l.scope) l.described l.given ≡ behind l.all.items (all_written (g.S.Scope.found l.scope) l.described (drop l.parameter-index l.given))
