use Rattle.arz_path.specs.Outcome.{Covers}
use Rattle.arz_path.specs.Results.{Asked}
use Rattle.arz_actions.specs.Tests.{all_met}
use Rattle.arz_actions.proofs.Trying.{from_here}
use Rattle.arz_actions.proofs.criteria.all_hold.Given as goal

-- what the criteria that are left come to, all come to
abbrev pub invariant-loop-test : goal.invariant-loop-test
invariant-loop-test g l =
    let told = (g.P.Patterns.patterns l.fn.rx).told in
    let found = g.S.Scope.found l.scope in
    record {
      covers : Covers (all_met told found l.tests) (from_here told found l.tests l.test-index);
      asked : Asked (g.P.Patterns.patterns l.fn.rx) (g.P.Patterns.patterns l.rx);
    }
