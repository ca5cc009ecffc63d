use Rattle.arz_scope.specs.Shallow.{HaveShallow}
use Rattle.arz_run_calls.proofs.messages.facts.Given as goal

abbrev pub invariant-loop-item : goal.invariant-loop-item
invariant-loop-item l = HaveShallow l.facts.items
