use Rattle.std.proofs.Common.{◌≡◌, drop}
use Rattle.arz_expr.specs.Values.{steps_in}
use Rattle.arz_expr.proofs.values.walk.Given as goal

abbrev pub invariant-loop-step : goal.invariant-loop-step
invariant-loop-step l = steps_in l.tail l.base ≡ steps_in (drop l.step-index l.step-items) l.target
