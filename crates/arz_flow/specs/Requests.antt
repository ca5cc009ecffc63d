-- The request of a step (Arazzo 1.0.1, 4.6.5), over the raw documents. What they don't have is empty here; no documents
-- that passed their rules lack it.
use Rattle.std.specs.Prelude.{ℕ, List, [], Option, Some, None, option_map, option_and_then, unwrap_or}
use Rattle.std.specs.Option.{option_or, option_map_or}
use Rattle.arz_json.specs.declared.Json.{Json}
use Rattle.arz_world.specs.declared.Request.{Request}
use Rattle.arz_world.specs.declared.Server.{Server}
use Rattle.arz_expr.specs.declared.syntax.Base.{Base}
use Rattle.arz_expr.specs.declared.template.Given.{Given}
use Rattle.arz_components.specs.Described.{component}
use Rattle.arz_openapi.specs.Targets.{Target, targets, target_if}
use Rattle.arz_target.specs.Urls.{Address, address_of}
use Rattle.arz_description.specs.Calls.{call_of}
use Rattle.arz_description.specs.Requests.{givens_of, joined_givens, body_of}
use Rattle.arz_request.specs.Causes.{Made}
use Rattle.arz_request.specs.Requests.{request}
use Rattle.arz_flow.specs.declared.bundle.Bundle.{Bundle}
use Rattle.arz_flow.specs.declared.endpoint.Endpoint.{Endpoint}

-- ---- what the step calls

abbrev pub server_named : Address → Server
server_named address = record { host = address.host; port = address.port; base = address.base }

abbrev pub no_server : Server
no_server = record { host = []; port = 80; base = [] }

-- the server that a URL names (OpenAPI 3.1.1, 4.8.5)
abbrev pub server_at : Option (List ℕ) → Server
server_at url = unwrap_or (option_map server_named (option_and_then address_of url)) no_server

-- an operation at the server that the setup gives for its source, or else at the one that applies in its document
abbrev pub endpoint_at : Target → Endpoint
endpoint_at target = record { operation = target.operation; server = server_at (option_or target.given target.operation.server) }

abbrev pub no_endpoint : Endpoint
no_endpoint = record { operation = record { path = []; method = []; parameters = []; types = []; server = None }; server = no_server }

-- the operation that a step calls, and its server
abbrev pub endpoint_of : Bundle → (step : Json) → Endpoint
endpoint_of b step = option_map_or endpoint_at (target_if (targets b.sources b.servers (call_of step))) no_endpoint

-- ---- what the step gives, and its workflow

-- the parameters that an object lists, with components in the place of the reusable objects that refer to them
abbrev pub parameters_of : Bundle → Json → List Given
parameters_of b j = givens_of (component b.arazzo) j

-- the parameters of a workflow, where there is such a workflow
abbrev pub workflow_parameters : Bundle → Option Json → List Given
workflow_parameters b None = []
workflow_parameters b (Some workflow) = parameters_of b workflow

-- those of the step, and those of its workflow that the step doesn't give itself (4.6.4.1: parameters)
abbrev pub given_to : Bundle → (workflow : Option Json) → (step : Json) → List Given
given_to b workflow step = joined_givens (parameters_of b step) (workflow_parameters b workflow)

-- ---- the whole

-- the request of a step of a workflow, or the first cause why there is none
abbrev pub request_of : Bundle → (Base → Option Json) → (workflow : Option Json) → (step : Json) → Made Request
request_of b found workflow step = request found (endpoint_of b step).operation (endpoint_of b step).server (given_to b workflow step) (body_of step)
