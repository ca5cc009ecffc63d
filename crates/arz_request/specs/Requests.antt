-- The request that an operation takes (OpenAPI 3.1.1, sections 4.8.10 and 4.8.12; RFC 9112, section 3), with the
-- parameters and the body that a step gives (Arazzo 1.0.1, section 4.6.5).
use Rattle.std.specs.Prelude.{ℕ, nat_le, ◌++◌, Bool, List, [], ◌∷◌, map, length, codes, if◌then◌else◌, Option, Some, None, option_map, Ok, Err}
use Rattle.std.specs.Fmt.{decimal}
use Rattle.std.specs.List.{list_any}
use Rattle.std.specs.Str.{bytes_eq, str_to_ascii_uppercase}
use Rattle.arz_json.specs.Answer.{◌>>=◌}
use Rattle.arz_json.specs.declared.Json.{Json}
use Rattle.arz_json.specs.declared.Location.TheVariants.{Query, Header as InHeader, Cookie}
use Rattle.arz_expr.specs.declared.syntax.Base.{Base}
use Rattle.arz_expr.specs.declared.template.Body.{Body}
use Rattle.arz_expr.specs.declared.template.Given.{Given}
use Rattle.arz_operation.specs.declared.types.Operation.{Operation}
use Rattle.arz_json.specs.Texts.{joined}
use Rattle.arz_target.specs.Templates.{expanded}
use Rattle.arz_world.specs.Requests.{authority, request_bytes}
use Rattle.arz_world.specs.declared.Header.{Header}
use Rattle.arz_world.specs.declared.Request.{Request}
use Rattle.arz_world.specs.declared.Server.{Server}
use Rattle.arz_request.specs.Causes.{Made, made_of}
use Rattle.arz_request.specs.Parameters.{Written, all_written, path_text, filled_at, texts_at}
use Rattle.arz_request.specs.Payloads.{content_of}
use Rattle.arz_request.specs.declared.body.Content.{Content}
use Rattle.arz_request.specs.declared.cause.Cause.TheVariants.{RequestTooLarge}

-- ---- the target (RFC 9112, section 3.2.1)

abbrev pub query_of : List Written → List ℕ
query_of ws = joined (codes "&") (texts_at Query ws)

abbrev pub with_query : (path query : List ℕ) → List ℕ
with_query path [] = path
with_query path (b ∷ query) = path ++ codes "?" ++ (b ∷ query)

-- an empty target is `/`
abbrev pub or_root : List ℕ → List ℕ
or_root [] = codes "/"
or_root (b ∷ target) = b ∷ target

abbrev pub target_of : Server → Operation → List Written → List ℕ
target_of server operation ws = or_root (with_query (server.base ++ expanded (path_text ws) operation.path) (query_of ws))

-- ---- the header lines, in order

abbrev pub header : List ℕ → List ℕ → Header
header name value = record { name = name; value = value }

abbrev pub fixed_headers : Server → List Header
fixed_headers server =
    header (codes "Host") (authority server)
    ∷ header (codes "Connection") (codes "close")
    ∷ header (codes "Accept-Encoding") (codes "identity")
    ∷ []

-- the parameters that stand in header lines, with their names as they are written
abbrev pub given_headers : List Written → List Header
given_headers ws = map (λ w. header w.sent.name w.text) (filled_at InHeader ws)

abbrev pub cookie_line : List (List ℕ) → List Header
cookie_line [] = []
cookie_line (text ∷ texts) = header (codes "Cookie") (joined (codes "; ") (text ∷ texts)) ∷ []

abbrev pub type_line : Option Content → List Header
type_line None = []
type_line (Some content) = header (codes "Content-Type") content.kind ∷ []

abbrev pub length_line : ℕ → List Header
length_line n = header (codes "Content-Length") (decimal n) ∷ []

-- POST, PUT and PATCH say that they have no body (RFC 9110, section 8.6)
abbrev pub tells_length : (method : List ℕ) → Bool
tells_length method = list_any (bytes_eq method) (codes "POST" ∷ codes "PUT" ∷ codes "PATCH" ∷ [])

abbrev pub length_lines : (method : List ℕ) → Option Content → List Header
length_lines method (Some content) = length_line (length content.bytes)
length_lines method None = if tells_length method then length_line 0 else []

abbrev pub headers_of : Server → (method : List ℕ) → List Written → Option Content → List Header
headers_of server method ws content =
    fixed_headers server ++ (given_headers ws ++ (cookie_line (texts_at Cookie ws) ++ (type_line content ++ length_lines method content)))

-- ---- the whole

abbrev pub method_of : Operation → List ℕ
method_of operation = str_to_ascii_uppercase operation.method

abbrev pub request_with : Operation → Server → List Written → Option Content → Request
request_with operation server ws content = record {
  method = method_of operation;
  server = server;
  target = target_of server operation ws;
  headers = headers_of server (method_of operation) ws content;
  body = option_map (λ c. c.bytes) content;
  values = map (λ w. w.sent) ws;
  payload = option_map (λ c. c.payload) content;
}

abbrev pub optional_content : (Base → Option Json) → (types : List (List ℕ)) → Option Body → Made (Option Content)
optional_content found types None = Ok None
optional_content found types (Some body) = made_of (λ c. Some c) (content_of found types body)

-- how many bytes a request may have
abbrev pub request_limit : ℕ
request_limit = 1048576

abbrev pub within_limit : Request → Made Request
within_limit q = if nat_le (length (request_bytes q)) request_limit then Ok q else Err RequestTooLarge

-- the request, or the first cause why there is none: of the parameters in order, then of the body, then its size
unfoldable pub request : (Base → Option Json) → Operation → Server → List Given → Option Body → Made Request
request found operation server given body =
    all_written found operation.parameters given >>= λ ws.
    optional_content found operation.types body >>= λ content.
    within_limit (request_with operation server ws content)
