use Rattle.std.proofs.Common.{◌≡◌, ◌++◌}
use Rattle.arz_runs.proofs.given.joined.Given as goal

abbrev pub invariant-loop-given : goal.invariant-loop-given
invariant-loop-given l = l.all ≡ l.initial.all ++ l.yielded
