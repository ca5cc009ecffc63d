use Rattle.std.proofs.Common.{◌-◌, arith, ◌∙◌}
use Rattle.std.proofs.lemmas.Map.Text.{btree_map_updates_str}
use Rattle.arz_components.specs.Indexes.{finds}
use Rattle.arz_sources.specs.Served.{found_in}
use Rattle.arz_runs.specs.Reading.{IsReadableFlow}
use Rattle.arz_runs.proofs.Reading.{taken, plan_step}
use Rattle.arz_runs.proofs.plans.read_plans.Goals as goal

pub read_plan-requires-clause-readable : goal.read_plan-requires-clause-readable
read_plan-requires-clause-readable c =
    taken (IsReadableFlow (finds c.args.reader.now.components.now)) c.args.workflows.now (c.loop-k.k - 1) c.index-workflows-k.result c.requires.readable (omega arith) c.index-workflows-k.is

pub loop-k-preserved-in_ok-insert : goal.loop-k-preserved-in_ok-insert
loop-k-preserved-in_ok-insert c =
    let before = c.loop-k.invariant in (
      plan_step (finds c.args.reader.now.components.now) (found_in c.args.reader.now.sources.now) c.loop-k.plans c.insert.new.self c.args.workflows.now c.loop-k.k c.index-workflows-k.result c.text_at.result.now c.in_ok-plan.plan
          (λ q. btree_map_updates_str c.text_at.result.now c.loop-k.plans c.insert.new.self _ c.in_ok-insert.ensures.updates q)
          c.text_at.ensures c.in_ok-plan.ensures.read (omega arith) (omega arith) c.index-workflows-k.is before.0,
      c.read_plan.ensures.same ∙ before.1,
    )

pub loop-k-preserved : goal.loop-k-preserved
loop-k-preserved c =
    let before = c.loop-k.invariant in (
      plan_step (finds c.args.reader.now.components.now) (found_in c.args.reader.now.sources.now) c.loop-k.plans c.insert.new.self c.args.workflows.now c.loop-k.k c.index-workflows-k.result c.text_at.result.now c.in_ok-plan.plan
          (λ q. btree_map_updates_str c.text_at.result.now c.loop-k.plans c.insert.new.self _ c.in_ok-insert.ensures.updates q)
          c.text_at.ensures c.in_ok-plan.ensures.read (omega arith) (omega arith) c.index-workflows-k.is before.0,
      c.read_plan.ensures.same ∙ before.1,
    )
