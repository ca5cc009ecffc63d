use Rattle.std.proofs.Common.{◌≡◌, map, ap, ◌∙◌}
use Rattle.arz_rules.specs.Phases.{first_failure}
use Rattle.arz_components.specs.Indexes.{finds}
use Rattle.arz_openapi.specs.Targets.{targets}
use Rattle.arz_sources.specs.Rules.{rules_by, rules}
use Rattle.arz_sources.specs.Served.{served, seen_source, found_in}
use Rattle.arz_sources.proofs.Searches.{found-targets}
use Rattle.arz_sources.proofs.steps.first_refusal.Goals as goal

pub returns : goal.returns
returns c =
    let named = c.args.sources.now in
    let servers = c.args.servers.now in
    let list : map seen_source c.as_slice.result.now ≡ map (served servers) named = ap (map seen_source) c.as_slice.ensures.value ∙ c.in_ok-list.ensures in
    let find : found_in c.in_ok-sources.sources ≡ targets named servers =
    found-targets c.in_ok-sources.sources servers named c.as_slice.result.now list c.in_ok-sources.ensures.list c.in_ok-sources.ensures.names in
    let whole : first_failure (rules_by (found_in c.in_ok-sources.sources) (finds c.in_ok-components.components) c.args.description.now)
    ≡ first_failure (rules c.args.description.now named servers) =
    λ i. first_failure (rules_by (find i) (λ part q. c.in_ok-components.ensures part q i) c.args.description.now) in
    c.in_ok-found.ensures ∙ whole
