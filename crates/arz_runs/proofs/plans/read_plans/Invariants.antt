use Rattle.std.proofs.Common.{◌≡◌, drop}
use Rattle.arz_components.specs.Indexes.{finds}
use Rattle.arz_sources.specs.Served.{found_in}
use Rattle.arz_runs.specs.Reading.{AreRead}
use Rattle.arz_runs.proofs.plans.read_plans.Given as goal

abbrev pub invariant-loop-k : goal.invariant-loop-k
invariant-loop-k l = AreRead (finds l.reader.components.now) (found_in l.reader.sources.now) (drop l.k l.workflows) l.plans
    × (l.actions.components.now ≡ l.initial.actions.components.now)
