use Rattle.std.proofs.Common.{arith, subst, sym, rules}
use Rattle.arz_scope.specs.Shallow.{IsShallow}
use Rattle.arz_scope.proofs.Depths.{Int-shallow}
use Rattle.arz_scope.proofs.exchange.status_tree.Goals as goal

pub returns-clause-value : goal.returns-clause-value
returns-clause-value c = search rules

pub returns-clause-shallow : goal.returns-clause-shallow
returns-clause-shallow c = subst IsShallow (sym (returns-clause-value c)) (Int-shallow c.args.code (omega arith))
