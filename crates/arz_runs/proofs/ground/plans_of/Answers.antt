use Rattle.arz_components.specs.Indexes.{finds}
use Rattle.arz_sources.specs.Served.{found_in}
use Rattle.arz_runs.specs.Grounds.{IsPlannedAs}
use Rattle.arz_runs.specs.Reading.{AreRead}
use Rattle.arz_runs.proofs.Planning.{flows_sound, components_sound, found_readable, plans_as, as_meant}
use Rattle.arz_runs.proofs.ground.plans_of.Goals as goal

pub read_plans-requires-clause-components : goal.read_plans-requires-clause-components
read_plans-requires-clause-components c = components_sound c.args.bundle.now c.requires.valid (finds c.args.components.now) c.requires.components

pub read_plans-requires-clause-workflows : goal.read_plans-requires-clause-workflows
read_plans-requires-clause-workflows c = flows_sound c.args.bundle.now c.requires.valid c.items_at.result.now c.items_at.ensures

pub read_plans-requires-clause-readable : goal.read_plans-requires-clause-readable
read_plans-requires-clause-readable c = found_readable c.args.bundle.now c.requires.valid (finds c.args.components.now) c.requires.components c.items_at.result.now c.items_at.ensures

pub returns : goal.returns
returns c =
    let b = c.args.bundle.now in
    let find = finds c.args.components.now in
    let look = found_in c.args.sources.now in
    let listed = c.items_at.result.now in
    as_meant (AreRead find look listed) (IsPlannedAs b) (plans_as b c.requires.valid find look listed c.requires.components c.requires.sources c.items_at.ensures) c.read_plans.result c.read_plans.ensures
