use Rattle.arz_path.specs.Results.{Asked}
use Rattle.arz_runs.proofs.Choices.{Reaches}
use Rattle.arz_runs.proofs.looking.first_that_holds.Given as goal

-- what the actions that are left come to, all come to
abbrev pub invariant-loop-index : goal.invariant-loop-index
invariant-loop-index g l =
    let first = g.P.Patterns.patterns l.fn.rx in
    record {
      covers : Reaches first.told (g.S.Scope.found l.scope) l.counts l.actions l.index;
      asked : Asked first (g.P.Patterns.patterns l.rx);
    }
