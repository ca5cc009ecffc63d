use Rattle.std.proofs.Common.{◌≡◌, map, ap, ◌∙◌}
use Rattle.std.proofs.lemmas.List.{take_all}
use Rattle.arz_description.specs.Calls.{call_of}
use Rattle.arz_openapi.specs.Targets.{targets, target_if}
use Rattle.arz_sources.specs.Served.{served, seen_source, found_in}
use Rattle.arz_sources.proofs.found.find_targets.Goals as goal

pub returns : goal.returns
returns c =
    let named = c.args.sources.now in
    let servers = c.args.servers.now in
    let list : map seen_source c.as_slice.result.now ≡ map (served servers) named = ap (map seen_source) c.as_slice.ensures.value ∙ c.in_ok-list.ensures in
    let find : found_in c.in_ok-sources.sources ≡ targets named servers = c.in_ok-sources.ensures.found named servers list in
    c.loop-step.invariant
    ∙ ap (map (λ step. target_if (found_in c.in_ok-sources.sources (call_of step)))) (take_all c.loop-step.step-index c.args.steps.now c.loop-step-test.false)
    ∙ (λ i. map (λ step. target_if (find i (call_of step))) c.args.steps.now)
