-- ---- for private clauses: what a step calls, as it is found
use Rattle.std.specs.Prelude.{Option}
use Rattle.std.specs.Option.{option_map_or}
use Rattle.arz_json.specs.declared.Json.{Json}
use Rattle.arz_description.specs.Calls.{call_of}
use Rattle.arz_openapi.specs.Targets.{Target, Targets, target_if}
use Rattle.arz_flow.specs.Requests.{endpoint_at, no_endpoint}
use Rattle.arz_flow.specs.declared.endpoint.Endpoint.{Endpoint}

-- what is called, where anything is
abbrev pub endpoint_if : Option Target → Endpoint
endpoint_if target = option_map_or endpoint_at target no_endpoint

-- what a step calls, by what its call comes to
abbrev pub called_as : Targets → (step : Json) → Endpoint
called_as targets step = endpoint_if (target_if (targets (call_of step)))
