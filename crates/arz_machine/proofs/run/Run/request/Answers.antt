use Rattle.std.proofs.Common.{List, get_or, ap, subst, ◌∙◌}
use Rattle.std.specs.Option.{option_copied}
use Rattle.arz_json.specs.Answer.{Gives}
use Rattle.arz_components.specs.Indexes.{finds}
use Rattle.arz_world.specs.declared.Request.{Request}
use Rattle.arz_request.specs.Causes.{Made, told}
use Rattle.arz_flow.specs.Documents.{workflow_named}
use Rattle.arz_flow.specs.declared.endpoint.Endpoint.{Endpoint}
use Rattle.arz_machine.proofs.Entering.{step_sound, workflow_sound, components_sound, the_step, the_endpoint, given_as, requested_as}
use Rattle.arz_machine.proofs.run.Run.request.Goals as goal

pub given-requires-clause-components : goal.given-requires-clause-components
given-requires-clause-components c = let run = c.args.self.now in components_sound run.bundle.now (finds run.components) run.sound.arazzo run.found

pub given-requires-clause-workflow : goal.given-requires-clause-workflow
given-requires-clause-workflow c = let run = c.args.self.now in workflow_sound run.bundle.now (option_copied run.workflow) run.sound.arazzo run.named

pub given-requires-clause-step : goal.given-requires-clause-step
given-requires-clause-step c =
    let run = c.args.self.now in
    step_sound run.bundle.now run.steps.now c.args.index c.index-self-index.result run.sound.arazzo run.listed c.requires

pub read_body-requires : goal.read_body-requires
read_body-requires c =
    let run = c.args.self.now in
    step_sound run.bundle.now run.steps.now c.args.index c.index-self-index.result run.sound.arazzo run.listed c.requires

pub returns-clause-builds : goal.returns-clause-builds
returns-clause-builds c = λ step at.
    let run = c.args.self.now in
    let b = run.bundle.now in
    let i = c.args.index in
    let d = c.index-self-index.result in
    let e = c.index-as_slice-index.result in
    let read = get_or run.steps.now i d in
    let same = the_step run.steps.now i d step at in
    let workflow = workflow_named b.workflow b.arazzo in
    let called = c.index-as_slice-index.is ∙ ap (λ (l : List Endpoint). get_or l i e) c.as_slice.ensures ∙ the_endpoint b run.steps.now run.endpoints i d e run.called c.requires in
    let gives = c.in_ok-given.ensures ∙ given_as b (finds run.components) (option_copied run.workflow) workflow read run.found run.named in
    let meant = requested_as b run.facts read step same c.in_ok-scope.scope e c.in_ok-given.given _ c.in_ok-scope.ensures called gives (c.as_ref.ensures.value ∙ c.in_ok-body.ensures) in
    subst (λ (made : Made Request). Gives (λ q. q) told c.build.result made) meant c.build.ensures.builds
