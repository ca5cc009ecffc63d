use Rattle.std.proofs.Common.{List, All, codes, refl, sym, subst}
use Rattle.arz_json.specs.declared.Json.{Json}
use Rattle.arz_components.specs.Indexes.{finds}
use Rattle.arz_description.proofs.Sound.{listed_under}
use Rattle.arz_sources.specs.Served.{found_in}
use Rattle.arz_runs.specs.Reading.{IsReadableStep}
use Rattle.arz_runs.proofs.Reading.{flow_read}
use Rattle.arz_runs.proofs.plans.read_plan.Goals as goal

pub read_steps-requires-clause-steps : goal.read_steps-requires-clause-steps
read_steps-requires-clause-steps c = listed_under (codes "steps") c.args.workflow.now c.items_at-listed.result.now c.items_at-listed.ensures c.requires.workflow

pub read_steps-requires-clause-readable : goal.read_steps-requires-clause-readable
read_steps-requires-clause-readable c =
    subst (λ (l : List Json). All (IsReadableStep (finds c.args.reader.now.components.now)) l) (sym c.items_at-listed.ensures) c.requires.readable.steps

pub returns-clause-read : goal.returns-clause-read
returns-clause-read c =
    flow_read (finds c.args.reader.now.components.now) (found_in c.args.reader.now.sources.now) c.args.workflow c.in_ok-flow.flow.workflow.now c.in_ok-steps.steps.items c.items_at-listed.result.now _ refl refl
    c.in_ok-flow.ensures.workflow c.items_at-listed.ensures c.in_ok-steps.ensures.steps c.in_ok-steps.ensures.each c.in_ok-indexes.ensures
