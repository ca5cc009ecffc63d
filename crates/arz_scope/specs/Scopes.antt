-- What expressions speak of (Arazzo 1.0.1, 4.7): the value of each base, where a run stands.
use Rattle.std.specs.Prelude.{ℕ, pos, ◌++◌, ◌&&◌, not, Bool, true, false, List, [], ◌∷◌, find, filter, codes, Option, Some, None, option_map, option_and_then}
use Rattle.std.specs.Str.{bytes_eq, str_eq_ignore_ascii_case}
use Rattle.arz_json.specs.Look.{member_in}
use Rattle.arz_json.specs.Pointer.{member_named}
use Rattle.arz_json.specs.declared.Json.{Json}
use Rattle.arz_json.specs.declared.Json.TheVariants.{Int, Text}
use Rattle.arz_json.specs.declared.Location.{Location}
use Rattle.arz_json.specs.declared.Location.TheVariants as place
use Rattle.arz_json.specs.declared.Member.{Member}
use Rattle.arz_world.specs.Requests.{authority}
use Rattle.arz_world.specs.declared.Reply.{Reply}
use Rattle.arz_world.specs.declared.Request.{Request}
use Rattle.arz_world.specs.declared.Sent.{Sent}
use Rattle.arz_expr.specs.declared.syntax.Base.{Base}
use Rattle.arz_expr.specs.declared.syntax.Base.TheVariants as base
use Rattle.arz_scope.specs.declared.facts.Completion.{Completion}
use Rattle.arz_scope.specs.declared.facts.Fact.{Fact}
use Rattle.arz_scope.specs.Bodies.{header_field, body_value}
use Rattle.arz_json.specs.Look.{text_at, items_at}

-- what an attempt may speak of: its own request and reply, or the outputs of the run that it made
pub data Attempt : Type 0 where
  Nothing : Attempt
  Exchange : Request → Reply → Attempt
  Inner : List Member → Attempt

-- the outputs of an inner run
abbrev pub ran : List Member → Base → Option Json
ran outputs (base.Output name) = member_named outputs name
ran outputs _ = None

abbrev pub is_at : Location → Location → Bool
is_at place.Path place.Path = true
is_at place.Query place.Query = true
is_at place.Header place.Header = true
is_at place.Cookie place.Cookie = true
is_at _ _ = false

-- the value of the request's first parameter in that place with that name
abbrev pub sent_value : (Sent → Bool) → Request → Option Json
sent_value is_it q = option_map (λ s. s.value) (find is_it q.values)

-- names of header fields are compared in any ASCII case
abbrev pub is_header : List ℕ → Sent → Bool
is_header name s = is_at s.place place.Header && str_eq_ignore_ascii_case s.name name

abbrev pub is_parameter : Location → List ℕ → Sent → Bool
is_parameter at name s = is_at s.place at && bytes_eq s.name name

-- `$url`, `$method` and what `$request` and `$response` read
abbrev pub exchanged : Request → Reply → Base → Option Json
exchanged q y base.Url = Some (Text (codes "http://" ++ authority q.server ++ q.target))
exchanged q y base.Method = Some (Text q.method)
exchanged q y base.StatusCode = Some (Int (pos y.status))
exchanged q y (base.RequestHeader name) = sent_value (is_header name) q
exchanged q y (base.RequestQuery name) = sent_value (is_parameter place.Query name) q
exchanged q y (base.RequestPath name) = sent_value (is_parameter place.Path name) q
exchanged q y base.RequestBody = q.payload
exchanged q y (base.ResponseHeader name) = header_field y name
exchanged q y base.ResponseBody = body_value y
exchanged q y _ = None

abbrev pub attempted : Attempt → Base → Option Json
attempted Nothing base = None
attempted (Exchange q y) base = exchanged q y base
attempted (Inner outputs) base = ran outputs base

-- ---- what is remembered of steps and of workflows: the last of each

-- the fact of a step
abbrev pub fact_of : (step : List ℕ) → List Fact → Option Fact
fact_of step facts = find (λ f. bytes_eq f.step step) facts

-- a fact takes the place of the one that its step had
abbrev pub with_fact : Fact → List Fact → List Fact
with_fact fact facts = filter (λ f. not (bytes_eq f.step fact.step)) facts ++ fact ∷ []

-- the completion of a workflow
abbrev pub completion_of : (workflow : List ℕ) → List Completion → Option Completion
completion_of workflow done = find (λ c. bytes_eq c.workflow workflow) done

-- a completion takes the place of the one that its workflow had
abbrev pub with_completion : Completion → List Completion → List Completion
with_completion completion done = filter (λ c. not (bytes_eq c.workflow completion.workflow)) done ++ completion ∷ []

-- a source description with this name
abbrev pub source_named : List ℕ → Json → Option Json
source_named name description = find (λ s. bytes_eq (text_at (codes "name") s) name) (items_at (codes "sourceDescriptions") description)

-- the type `openapi` of a source that names none
abbrev pub or_openapi : Option Json → Option Json
or_openapi None = Some (Text (codes "openapi"))
or_openapi (Some type) = Some type

-- what a run has: the description, its inputs, the facts of its steps, and the completions of the execution, the last of each step and workflow
pub record Surroundings : Type 0 where
  pub description : Json
  pub inputs : List Member
  pub facts : List Fact
  pub done : List Completion

-- the value of each base, if it has one
unfoldable pub found : Surroundings → Attempt → Base → Option Json
found s a (base.Input name) = member_named s.inputs name
found s a (base.StepOutput step name) = option_and_then (λ f. member_named f.outputs name) (fact_of step s.facts)
found s a (base.WorkflowInput workflow name) = option_and_then (λ c. member_named c.inputs name) (completion_of workflow s.done)
found s a (base.WorkflowOutput workflow name) = option_and_then (λ c. member_named c.outputs name) (completion_of workflow s.done)
found s a (base.SourceUrl name) = option_and_then (member_in (codes "url")) (source_named name s.description)
found s a (base.SourceName name) = option_and_then (member_in (codes "name")) (source_named name s.description)
found s a (base.SourceKind name) = option_and_then (λ d. or_openapi (member_in (codes "type") d)) (source_named name s.description)
found s a b = attempted a b
