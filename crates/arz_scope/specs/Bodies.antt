-- What `$response` reads of a reply (Arazzo 1.0.1, 4.7; RFC 9110, 5.3, 8.3 and 8.4).
use Rattle.std.specs.Prelude.{ℕ, ◌==◌, ◌||◌, nat_eq, Bool, true, false, List, [], ◌∷◌, map, filter, reverse, codes, if◌then◌else◌, Option, Some, None, option_map}
use Rattle.std.specs.List.{list_all, starts_with, ends_with, before_first}
use Rattle.std.specs.Str.{bytes_eq, str_eq_ignore_ascii_case, str_to_ascii_lowercase, is_utf8}
use Rattle.serde_json.specs.Read.{read}
use Rattle.arz_json.specs.Reading.{tree_of}
use Rattle.arz_json.specs.declared.Json.{Json}
use Rattle.arz_json.specs.declared.Json.TheVariants.{Text}
use Rattle.arz_world.specs.declared.Header.{Header}
use Rattle.arz_world.specs.declared.Reply.{Reply}
use Rattle.arz_json.specs.Texts.{joined}

-- names are compared in any ASCII case
abbrev pub has_name : List ℕ → Header → Bool
has_name name h = str_eq_ignore_ascii_case h.name name

-- the values of the header lines with this name, in order
abbrev pub values_of : List ℕ → List Header → List (List ℕ)
values_of name headers = map (λ h. h.value) (filter (has_name name) headers)

-- the bytes as a text, where they are one
abbrev pub text_of : List ℕ → Option Json
text_of bytes = if is_utf8 bytes then Some (Text bytes) else None

-- the bytes as a JSON value, where `serde_json` reads them as one
abbrev pub json_of : List ℕ → Option Json
json_of bytes = if is_utf8 bytes then option_map tree_of (read bytes) else None

abbrev pub field_of : List (List ℕ) → Option Json
field_of [] = None
field_of (value ∷ values) = text_of (joined (codes ", ") (value ∷ values))

-- `$response.header.NAME`: the values joined by `, `
abbrev pub header_field : Reply → List ℕ → Option Json
header_field reply name = field_of (values_of name reply.headers)

-- space and tab
abbrev pub is_blank : ℕ → Bool
is_blank b = b == 32 || b == 9

abbrev pub skip_blanks : List ℕ → List ℕ
skip_blanks [] = []
skip_blanks (b ∷ text) = if is_blank b then skip_blanks text else b ∷ text

-- without the blanks at both ends
abbrev pub trimmed : List ℕ → List ℕ
trimmed text = reverse (skip_blanks (reverse (skip_blanks text)))

-- the media type without its parameters, in lower case
abbrev pub media_type : List ℕ → List ℕ
media_type value = str_to_ascii_lowercase (trimmed (before_first (λ b. b == 59) value))

-- how a body is read
pub data Kind : Type 0 where
  AsJson : Kind
  AsText : Kind
  Unread : Kind

abbrev pub is_json : List ℕ → Bool
is_json type = bytes_eq type (codes "application/json") || ends_with nat_eq type (codes "+json")

abbrev pub is_text : List ℕ → Bool
is_text type = starts_with nat_eq type (codes "text/") || bytes_eq type (codes "application/x-www-form-urlencoded")

abbrev pub kind_of_type : List ℕ → Kind
kind_of_type type = if is_json type then AsJson else if is_text type then AsText else Unread

-- by the first `content-type`, and as JSON without one
abbrev pub kind_by : List (List ℕ) → Kind
kind_by [] = AsJson
kind_by (value ∷ values) = kind_of_type (media_type value)

-- no line names another coding than `identity`
abbrev pub is_plain : List (List ℕ) → Bool
is_plain codings = list_all (λ c. str_eq_ignore_ascii_case c (codes "identity")) codings

abbrev pub kind_of : Reply → Kind
kind_of reply = if is_plain (values_of (codes "content-encoding") reply.headers) then kind_by (values_of (codes "content-type") reply.headers) else Unread

abbrev pub read_as : Kind → List ℕ → Option Json
read_as AsJson body = json_of body
read_as AsText body = text_of body
read_as Unread body = None

abbrev pub is_empty : List ℕ → Bool
is_empty [] = true
is_empty (b ∷ body) = false

-- `$response.body`
abbrev pub body_value : Reply → Option Json
body_value reply = if is_empty reply.body then None else read_as (kind_of reply) reply.body
