use Rattle.std.proofs.Common.{◌≡◌, All, map, take}
use Rattle.arz_components.specs.Indexes.{finds}
use Rattle.arz_sources.specs.Served.{found_in}
use Rattle.arz_runs.specs.Reading.{IsReadStep}
use Rattle.arz_runs.proofs.plans.read_steps.Given as goal

abbrev pub invariant-loop-step : goal.invariant-loop-step
invariant-loop-step l = (map (λ p. p.step.now) l.list.items ≡ take l.step-index l.steps)
    × (All (IsReadStep (finds l.reader.components.now) (found_in l.reader.sources.now) l.flow.workflow.now) l.list.items
    × (l.actions.components.now ≡ l.initial.actions.components.now))
