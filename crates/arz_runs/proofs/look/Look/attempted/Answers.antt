use Rattle.arz_runs.specs.Runs.{then_of}
use Rattle.arz_runs.specs.Scenes.{bundle_in, own_of}
use Rattle.arz_runs.proofs.Attempts.{wide_says, unjudged_lands, judged_lands}
use Rattle.arz_runs.proofs.look.Look.attempted.Goals as goal

pub returns-in-Err-TooWide-clause-lands : goal.returns-in-Err-TooWide-clause-lands
returns-in-Err-TooWide-clause-lands g c = λ below sends r deep goes.
    let told = (g.P.Patterns.patterns c.args.rx.now).told in
    let l = c.args.self.now in
    let step = c.args.planned.now.step.now in
    let left = c.in_ok-unjudged-in-Err-TooWide in
    unjudged_lands told l below sends r c.requires.fresh deep step (own_of c.args.own) c.args.plain (then_of told (bundle_in l) c.args.index step c.args.next.now) left.field-0.fact left.field-0.goal (wide_says _ _ _ c.in-Err-TooWide.field-0 c.in-Err-TooWide.field-0-is c.in-Err-TooWide.ensures.says) left.ensures.fact left.ensures.goal goes

pub returns-clause-lands : goal.returns-clause-lands
returns-clause-lands g c = λ below sends r deep goes.
    let told = (g.P.Patterns.patterns c.args.rx.now).told in
    let l = c.args.self.now in
    let step = c.args.planned.now.step.now in
    judged_lands told l below sends r c.requires.fresh deep step (own_of c.args.own) c.args.plain (g.P.Patterns.patterns c.verdict.new.rx).told c.in-Ok.ensures.asked.told c.in-Ok.succeeded c.in_ok-fact.fact c.with.result c.args.index c.args.next.now c.in_ok-goal.goal
    c.in-Ok.ensures.says c.in_ok-fact.ensures.fact c.with.ensures c.in_ok-goal.ensures.leads goes
