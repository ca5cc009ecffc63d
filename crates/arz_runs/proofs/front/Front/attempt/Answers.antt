use Rattle.std.proofs.Common.{◌≡◌, refl, sym, ap, ◌∙◌, subst, Ok}
use Rattle.arz_runs.specs.Fronts.{bundle_at, done_at, runs_open, Attempts}
use Rattle.arz_runs.specs.Turns.{Lands}
use Rattle.arz_runs.proofs.Entering.{absent_ends, sends_it, spends_it, stuck_request, makes_it, stuck_making}
use Rattle.arz_runs.proofs.Resuming.{ok_more}
use Rattle.arz_runs.proofs.front.Front.attempt.Goals as goal

pub returns-in_default-clause-lands : goal.returns-in_default-clause-lands
returns-in_default-clause-lands c =
    let f = c.args.self.now in
    let fs = runs_open f c.args.made.now in
    ok_more _ _ c.nowhere.result
    (λ goal is told r g.
    subst (λ x. Lands told (bundle_at f) fs (done_at f) f.sends r x) (sym is)
    (absent_ends told (bundle_at f) fs (done_at f) f.sends r c.args.index c.args.next _ f.ground.now.sound c.in_default.ensures.absent refl g))
    c.nowhere.ensures

pub returns-in-Ok-clause-lands : goal.returns-in-Ok-clause-lands
returns-in-Ok-clause-lands c = λ told r g.
    let f = c.args.self.now in
    spends_it told (bundle_at f) (runs_open f c.args.made.now) (done_at f) f.sends r c.args.index c.args.next c.in-Some.look c.in-Some.planned.now c.in-Some.ensures.there
    c.in-Operation.endpoint c.in-Operation.given c.in-Operation.body _ c.in-Operation.is c.as_ref.ensures.value c.in-Ok.field-0 c.in-Ok.ensures.builds c.if-self.true g

pub returns-in-Ok-2-clause-lands : goal.returns-in-Ok-2-clause-lands
returns-in-Ok-2-clause-lands c = λ told r g.
    let f = c.args.self.now in
    sends_it told (bundle_at f) (runs_open f c.args.made.now) (done_at f) f.sends r c.args.index c.args.next c.in-Some.look c.in-Some.planned.now c.in-Some.ensures.there
    c.in-Operation.endpoint c.in-Operation.given c.in-Operation.body _ c.in-Operation.is c.as_ref.ensures.value c.in-Ok.field-0 c.in-Ok.ensures.builds c.if-self.false g

pub returns-in-Err-clause-lands : goal.returns-in-Err-clause-lands
returns-in-Err-clause-lands c =
    let f = c.args.self.now in
    let fs = runs_open f c.args.made.now in
    ok_more _ _ c.stuck.result
    (λ goal is told r g.
    subst (λ x. Lands told (bundle_at f) fs (done_at f) f.sends r x) (sym is.1.1)
    (stuck_request told (bundle_at f) fs (done_at f) f.sends r c.args.index c.args.next c.in-Some.look c.in-Some.planned.now c.in-Some.ensures.there
    c.in-Operation.endpoint c.in-Operation.given c.in-Operation.body _ c.in-Operation.is c.as_ref.ensures.value c.in-Err.fault is.0 is.1.0 c.in-Err.ensures.builds g))
    c.stuck.ensures

pub returns-in_ok-spot-in-Ok-inputs-clause-lands : goal.returns-in_ok-spot-in-Ok-inputs-clause-lands
returns-in_ok-spot-in-Ok-inputs-clause-lands c = λ told r g.
    let f = c.args.self.now in
    makes_it told (bundle_at f) (runs_open f c.args.made.now) (done_at f) f.sends r c.args.index c.args.next c.in-Some.look c.in-Some.planned.now c.in-Some.ensures.there
    c.in-Workflow.id c.in-Workflow.given c.in-Workflow.is c.in_ok-copy-in-Ok-inputs.field-0 c.inputs-in-Ok-inputs.inside.items.items c.in_ok-spot-in-Ok-inputs.field-0 c.in_ok-copy-in-Ok-inputs.ensures (c.in-Ok-inputs.ensures.fills ∙ ap Ok (sym c.inputs-in-Ok-inputs.view_is)) c.in_ok-spot-in-Ok-inputs.ensures g

pub returns-in-Err-inputs-clause-lands : goal.returns-in-Err-inputs-clause-lands
returns-in-Err-inputs-clause-lands c =
    let f = c.args.self.now in
    let fs = runs_open f c.args.made.now in
    ok_more _ _ c.stuck-in-Err-inputs.result
    (λ goal is told r g.
    subst (λ x. Lands told (bundle_at f) fs (done_at f) f.sends r x) (sym is.1.1)
    (stuck_making told (bundle_at f) fs (done_at f) f.sends r c.args.index c.args.next c.in-Some.look c.in-Some.planned.now c.in-Some.ensures.there
    c.in-Workflow.id c.in-Workflow.given c.in-Workflow.is c.in-Err-inputs.fault is.0 is.1.0 c.in-Err-inputs.ensures.fills g))
    c.stuck-in-Err-inputs.ensures
