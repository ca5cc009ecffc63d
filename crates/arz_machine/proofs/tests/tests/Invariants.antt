use Rattle.std.proofs.Common.{◌≡◌, map, take}
use Rattle.arz_machine.specs.Tests.{tests_of}
use Rattle.arz_machine.proofs.tests.tests.Given as goal

abbrev pub invariant-loop-step : goal.invariant-loop-step
invariant-loop-step l = l.tests.items ≡ map tests_of (take l.step-index l.steps)
