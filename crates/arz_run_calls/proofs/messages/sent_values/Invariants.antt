use Rattle.std.proofs.Common.{All}
use Rattle.arz_scope.specs.Shallow.{IsShallow}
use Rattle.arz_run_calls.proofs.messages.sent_values.Given as goal

abbrev pub invariant-loop-value : goal.invariant-loop-value
invariant-loop-value l = All (λ s. IsShallow s.value) l.values.items
