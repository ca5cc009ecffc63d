use Rattle.std.proofs.Common.{◌≡◌, ◌++◌, drop}
use Rattle.std.specs.List.{flat_map}
use Rattle.arz_probe.specs.Paths.{step_text}
use Rattle.arz_probe.proofs.paths.push_steps.Given as goal

abbrev pub invariant-loop-step : goal.invariant-loop-step
invariant-loop-step l = l.fn.text.items ++ flat_map step_text l.fn.steps ≡ l.text.items ++ flat_map step_text (drop l.step-index l.fn.steps)
