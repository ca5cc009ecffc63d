use Rattle.arz_relation.specs.Cases.{choice}
use Rattle.arz_relation.specs.Documents.{actions_at}
use Rattle.arz_runs.specs.Scenes.{bundle_in, scene, speaks, own_of}
use Rattle.arz_runs.proofs.Attempts.{none_leads, one_leads, wide_leads, wide_chosen}
use Rattle.arz_runs.proofs.look.Look.act.Goals as goal

pub returns-in_ok-go_on-in-Ok-None-clause-leads : goal.returns-in_ok-go_on-in-Ok-None-clause-leads
returns-in_ok-go_on-in-Ok-None-clause-leads g c =
    let told = (g.P.Patterns.patterns c.args.rx.now).told in
    none_leads told c.args.self.now c.args.judged.now c.args.counts.now c.in-Ok-None.field-0 c.in_ok-go_on-in-Ok-None.field-0 c.in-Ok-None.field-0-is c.in-Ok-None.ensures.chooses (c.in_ok-go_on-in-Ok-None.ensures.leads told)

pub returns-in_ok-take-in-Ok-Some-clause-leads : goal.returns-in_ok-take-in-Ok-Some-clause-leads
returns-in_ok-take-in-Ok-Some-clause-leads g c =
    let told = (g.P.Patterns.patterns c.args.rx.now).told in
    one_leads told c.args.self.now c.args.judged.now c.args.counts.now c.in-Ok-Some.field-0 c.in-Ok-Some.chosen c.action_at-action.result.now c.in_ok-take-in-Ok-Some.field-0 c.in-Ok-Some.field-0-is c.in-Ok-Some.ensures.chooses
    c.requires.step.1 c.action_at-action.ensures c.in_ok-take-in-Ok-Some.ensures.takes

pub returns-in_ok-widened-in-Err-TooWide-clause-leads : goal.returns-in_ok-widened-in-Err-TooWide-clause-leads
returns-in_ok-widened-in-Err-TooWide-clause-leads g c =
    let told = (g.P.Patterns.patterns c.args.rx.now).told in
    let l = c.args.self.now in
    let j = c.args.judged.now in
    let actions = actions_at (bundle_in l) l.frame.now.workflow j.planned.now.step.now j.succeeded in
    wide_leads told l j c.args.counts.now c.in_ok-widened-in-Err-TooWide.field-0
    (wide_chosen actions (choice told (speaks (scene l) (own_of j.own)) c.args.counts.now actions) (g.P.Patterns.patterns c.args.rx.now) (g.P.Patterns.patterns c.choose.new.rx) c.in-Err-TooWide.field-0 c.in-Err-TooWide.field-0-is c.in-Err-TooWide.ensures.chooses) c.in_ok-widened-in-Err-TooWide.ensures
