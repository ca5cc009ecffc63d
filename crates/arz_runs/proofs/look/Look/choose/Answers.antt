use Rattle.std.proofs.Common.{List, ap, subst, sym, ◌∙◌}
use Rattle.arz_json.specs.declared.Json.{Json}
use Rattle.arz_scope.specs.Scopes.{found}
use Rattle.arz_scope.specs.Speaking.{Speaking, run_of, attempt_of}
use Rattle.arz_actions.specs.Ready.{readies}
use Rattle.arz_relation.specs.Cases.{choice}
use Rattle.arz_runs.specs.Choosing.{any_tried}
use Rattle.arz_runs.specs.Planned.{raw_actions}
use Rattle.arz_runs.specs.Scenes.{scene, speaks, own_of, Chooses}
use Rattle.arz_runs.proofs.Asking.{asks_by_actions}
use Rattle.arz_runs.proofs.Choices.{are_tried, read_raw, raw_same}
use Rattle.arz_runs.proofs.look.Look.choose.Goals as goal

pub first_that_holds-requires : goal.first_that_holds-requires
first_that_holds-requires g c =
    let step = c.requires.step in
    rw c.actions-actions.ensures (are_tried c.args.self.now.ground.now.bundle.now c.args.self.now.frame.now.workflow step.workflow step.named c.args.planned.now step.planned c.args.succeeded)

pub returns-clause-chooses : goal.returns-clause-chooses
returns-clause-chooses g c =
    let look = c.args.self.now in
    let b = look.ground.now.bundle.now in
    let id = look.frame.now.workflow in
    let ok = c.args.succeeded in
    let planned = c.args.planned.now in
    let step = c.requires.step in
    let old = g.P.Patterns.patterns c.args.rx.now in
    let new = g.P.Patterns.patterns c.first_that_holds.new.rx in
    let raw = raw_actions b step.workflow planned.step.now ok in
    let read = ap readies c.actions-actions.ensures ∙ read_raw b id step.workflow step.named planned step.planned ok in
    subst (λ (l : List Json). Chooses l (choice old.told (speaks (scene look) (own_of c.args.own)) c.args.counts.now l) old new c.first_that_holds.result)
    (raw_same b id step.workflow step.named planned step.planned ok)
    (subst (λ (z : Speaking). Chooses raw (choice old.told (found (run_of z) (attempt_of z.exchange z.inner)) c.args.counts.now raw) old new c.first_that_holds.result)
    c.in_ok-scope.ensures (c.first_that_holds.ensures.chooses raw read))

pub returns-clause-pattern : goal.returns-clause-pattern
returns-clause-pattern g c = λ h.
    let look = c.args.self.now in
    let b = look.ground.now.bundle.now in
    let id = look.frame.now.workflow in
    let ok = c.args.succeeded in
    let planned = c.args.planned.now in
    let step = c.requires.step in
    let read = ap readies c.actions-actions.ensures ∙ read_raw b id step.workflow step.named planned step.planned ok in
    asks_by_actions b id step.workflow planned.step.now step.place step.named step.at ok (ap any_tried (sym read) ∙ c.first_that_holds.ensures.matched h)
