-- What the steps call, by the targets that were found for them.
use Rattle.std.proofs.Common.{◌≡◌, List, map, Option, sym, ap, ap₂, ◌∙◌}
use Rattle.std.specs.Prelude.{option_map}
use Rattle.std.proofs.lemmas.Simd.{map-map}
use Rattle.arz_json.specs.declared.Json.{Json}
use Rattle.arz_json.specs.declared.Named.{Named}
use Rattle.arz_json.specs.declared.NamedText.{NamedText}
use Rattle.arz_description.specs.Calls.{call_of}
use Rattle.arz_openapi.specs.Targets.{Target as spec, targets, target_if}
use Rattle.arz_sources.specs.Seen.{seen_target}
use Rattle.arz_sources.specs.declared.calls.Target.{Target}
use Rattle.arz_flow.specs.Requests.{endpoint_of}
use Rattle.arz_flow.specs.declared.bundle.Bundle.{Bundle}
use Rattle.arz_machine.specs.Reached.{endpoint_if}

abbrev looked : List Named → List NamedText → Json → Option spec
looked sources servers step = target_if (targets sources servers (call_of step))

pub reached : (b : Bundle) (sources : List Named) (servers : List NamedText) (steps : List Json) (found : List (Option Target)) → sources ≡ b.sources → servers ≡ b.servers
    → map (option_map seen_target) found ≡ map (looked sources servers) steps → map (λ t. endpoint_if (option_map seen_target t)) found ≡ map (endpoint_of b) steps
reached b sources servers steps found by_source by_server is =
    sym (map-map endpoint_if (option_map seen_target) found)
    ∙ ap (map endpoint_if) (is ∙ ap₂ (λ (l : List Named) (m : List NamedText). map (looked l m) steps) by_source by_server)
    ∙ map-map endpoint_if (looked b.sources b.servers) steps
