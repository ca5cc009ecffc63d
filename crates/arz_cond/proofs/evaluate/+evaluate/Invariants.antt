use Rattle.std.proofs.Common.{◌≡◌, drop}
use Rattle.arz_cond.specs.Meaning.{some_true, each_true}
use Rattle.arz_cond.proofs.evaluate.+evaluate.Given as goal

-- what is left decides

abbrev pub invariant-any_is_true-loop-term : goal.invariant-any_is_true-loop-term
invariant-any_is_true-loop-term g l = some_true (g.S.Scope.found l.scope) l.term-items ≡ some_true (g.S.Scope.found l.scope) (drop l.term-index l.term-items)

abbrev pub invariant-all_are_true-loop-term : goal.invariant-all_are_true-loop-term
invariant-all_are_true-loop-term g l = each_true (g.S.Scope.found l.scope) l.term-items ≡ each_true (g.S.Scope.found l.scope) (drop l.term-index l.term-items)
