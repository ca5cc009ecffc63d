-- The replies of a file of replies.
use Rattle.std.specs.Prelude.{ℕ, ℤ, ◌≤◌, ◌++◌, pos, negsuc, nat_lt, List, [], ◌∷◌, map, codes, Bool, if◌then◌else◌, option_and_then, unwrap_or}
use Rattle.std.specs.declared.option.Option.{Option}
use Rattle.std.specs.declared.option.Option.TheVariants.{None, Some}
use Rattle.std.specs.List.{list_any}
use Rattle.std.specs.Str.{bytes_eq, str_to_ascii_lowercase}
use Rattle.serde_json.specs.Written.{compact_text}
use Rattle.arz_json.specs.Look.{text_in, int_in, list_in, member_in}
use Rattle.arz_json.specs.Writing.{data_of}
use Rattle.arz_json.specs.declared.Json.{Json}
use Rattle.arz_json.specs.declared.Member.{Member}
use Rattle.arz_world.specs.declared.Header.{Header}
use Rattle.arz_world.specs.declared.Reply.{Reply}
use Rattle.arz_flow.specs.Documents.{text_at, members_at}

-- a status fits 16 bits
abbrev pub status_of : Option ℤ → ℕ
status_of (Some (pos n)) = if nat_lt n 65536 then n else 0
status_of (Some (negsuc n)) = 0
status_of None = 0

abbrev pub header : List ℕ → List ℕ → Header
header name value = record { name = name; value = value }

-- a field's name in lower case (RFC 9110, 5.1: names are compared without case), and its value
abbrev pub header_of : Member → Header
header_of m = header (str_to_ascii_lowercase m.name) (unwrap_or (text_in m.value) [])

-- the fields in the byte order of the names as written, in which an object's members stand
abbrev pub given_headers : Json → List Header
given_headers item = map header_of (members_at (codes "headers") item)

abbrev pub is_content_type : Header → Bool
is_content_type h = bytes_eq h.name (codes "content-type")

-- a JSON value is told as such, where the fields don't tell its type (RFC 9110, 8.3)
abbrev pub type_told : List Header → List Header
type_told headers = if list_any is_content_type headers then headers else headers ++ header (codes "content-type") (codes "application/json") ∷ []

-- the fields and the body of an item with such a `body`, or with none
abbrev pub headers_for : Option Json → List Header → List Header
headers_for None headers = headers
headers_for (Some body) headers = type_told headers

abbrev pub body_for : Option Json → (text : List ℕ) → List ℕ
body_for None text = text
body_for (Some body) text = compact_text (data_of body)

abbrev pub reply_of : Json → Reply
reply_of item = record {
  status = status_of (option_and_then int_in (member_in (codes "status") item));
  headers = headers_for (member_in (codes "body") item) (given_headers item);
  body = body_for (member_in (codes "body") item) (text_at (codes "text") item);
}

abbrev pub replies_of : Json → List Reply
replies_of tree = map reply_of (unwrap_or (list_in tree) [])

-- the status of a given reply is 200 to 599
pub record HasStatus (reply : Reply) : Type 0 where
  pub least : 200 ≤ reply.status
  pub most : reply.status ≤ 599
