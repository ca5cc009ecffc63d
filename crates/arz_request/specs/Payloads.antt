-- The body of a request (Arazzo 1.0.1, sections 4.6.13 and 4.6.14; OpenAPI 3.1.1, sections 4.8.13 and 4.8.14).
use Rattle.std.specs.Prelude.{ℕ, ◌&&◌, nat_le, Bool, true, false, List, [], ◌∷◌, codes, if◌then◌else◌, Option, Some, None, option_map, ok_or, unwrap_or, Ok, Err}
use Rattle.std.specs.List.{list_any}
use Rattle.std.specs.Option.{is_none}
use Rattle.std.specs.Str.{bytes_eq, is_utf8}
use Rattle.serde_json.specs.Read.{read}
use Rattle.serde_json.specs.Written.{compact_text}
use Rattle.arz_json.specs.Answer.{◌>>=◌}
use Rattle.arz_json.specs.Look.{text_in}
use Rattle.arz_json.specs.Put.{with_value, put_depth}
use Rattle.arz_json.specs.Reading.{tree_of}
use Rattle.arz_json.specs.Tree.{depth, has_opaque}
use Rattle.arz_json.specs.Writing.{data_of}
use Rattle.arz_json.specs.declared.Json.{Json}
use Rattle.arz_expr.specs.Reading.{reading}
use Rattle.arz_expr.specs.declared.syntax.Base.{Base}
use Rattle.arz_expr.specs.declared.template.Body.{Body}
use Rattle.arz_expr.specs.declared.template.Replacement.{Replacement}
use Rattle.arz_style.specs.Forms.{form_of}
use Rattle.arz_request.specs.Causes.{Made, made_of, filling, by_style}
use Rattle.arz_request.specs.MediaTypes.{is_sendable, media_type_of, is_as_json}
use Rattle.arz_request.specs.declared.body.Content.{Content}
use Rattle.arz_request.specs.declared.cause.Cause.TheVariants.{FractionUsed, TooNested, NotSerializable, PayloadTarget}
use Rattle.arz_request.specs.declared.media_types.MediaType.{MediaType}
use Rattle.arz_request.specs.declared.media_types.MediaType.TheVariants as media

-- ---- the media type

abbrev pub json_type : List ℕ
json_type = codes "application/json"

abbrev pub first_or_json : List (List ℕ) → List ℕ
first_or_json [] = json_type
first_or_json (type ∷ types) = type

-- without a `contentType` it is `application/json`, where the operation lists that or lists nothing, else the first listed
abbrev pub listed_kind : (types : List (List ℕ)) → List ℕ
listed_kind types = if list_any (λ type. bytes_eq type json_type) types then json_type else first_or_json types

abbrev pub kind_of : (types : List (List ℕ)) → Body → List ℕ
kind_of types body = unwrap_or body.kind (listed_kind types)

-- ---- the payload

-- a text that is no expression
abbrev pub is_plain_text_of : Option (List ℕ) → Bool
is_plain_text_of None = false
is_plain_text_of (Some text) = is_none (reading text)

abbrev pub is_plain_text : (template : Json) → Bool
is_plain_text template = is_plain_text_of (text_in template)

-- the JSON value that a text spells
abbrev pub json_of : List ℕ → Option Json
json_of text = if is_utf8 text then option_map tree_of (read text) else None

abbrev pub read_text : Option (List ℕ) → Made Json
read_text None = Err PayloadTarget
read_text (Some text) = ok_or (json_of text) PayloadTarget

-- a text of JSON as the value that it spells
abbrev pub opened : (is_json_text : Bool) → Json → Made Json
opened true payload = read_text (text_in payload)
opened false payload = Ok payload

-- ---- replacements

abbrev pub within_depth : Json → Made Json
within_depth tree = if nat_le (depth tree) put_depth then Ok tree else Err TooNested

-- the value at the place that the target names
abbrev pub replaced : (target : List ℕ) → (payload value : Json) → Made Json
replaced target payload value = ok_or (with_value value target payload) PayloadTarget >>= within_depth

module _ (found : Base → Option Json) where
  abbrev pub with_replacement : Json → Replacement → Made Json
  with_replacement payload r = filling found r.value >>= replaced r.target payload

  -- in order, each in what the one before made
  abbrev pub with_replacements : Json → List Replacement → Made Json
  with_replacements payload [] = Ok payload
  with_replacements payload (r ∷ rs) = with_replacement payload r >>= λ made. with_replacements made rs

  -- where something is replaced, a text of JSON is first read
  abbrev pub changed : (is_json_text : Bool) → Json → List Replacement → Made Json
  changed is_json_text payload [] = Ok payload
  changed is_json_text payload (r ∷ rs) = opened is_json_text payload >>= λ tree. with_replacements tree (r ∷ rs)

-- ---- writing

abbrev pub text_alone : Option (List ℕ) → Made (List ℕ)
text_alone text = ok_or text NotSerializable

abbrev pub compact : Json → Made (List ℕ)
compact value = if has_opaque value then Err FractionUsed else Ok (compact_text (data_of value))

abbrev pub is_empty : {X : Type 0} → List X → Bool
is_empty [] = true
is_empty (x ∷ xs) = false

-- whether the payload is sent as the text that it is
abbrev pub stays_text : Body → Bool
stays_text body = is_empty body.replacements && is_plain_text body.payload

abbrev pub json_bytes : Body → Json → Made (List ℕ)
json_bytes body value = if stays_text body then text_alone (text_in value) else compact value

abbrev pub bytes_as : MediaType → Body → Json → Made (List ℕ)
bytes_as media.Json body value = json_bytes body value
bytes_as media.Form body value = by_style (form_of value)
bytes_as media.Text body value = text_alone (text_in value)

-- a listed type that can't be sent comes before all else of writing
abbrev pub written_as : (kind : List ℕ) → Body → Json → Made (List ℕ)
written_as kind body value = if is_sendable kind then bytes_as (media_type_of kind) body value else Err NotSerializable

-- ---- the whole

abbrev pub content : (kind : List ℕ) → (payload : Json) → (bytes : List ℕ) → Content
content kind payload bytes = record { kind = kind; payload = payload; bytes = bytes }

abbrev pub is_json_text : MediaType → Body → Bool
is_json_text type body = is_as_json type && is_plain_text body.payload

abbrev pub value_of : (Base → Option Json) → MediaType → Body → Made Json
value_of found type body = filling found body.payload >>= λ payload. changed found (is_json_text type body) payload body.replacements

abbrev pub content_as : (Base → Option Json) → (kind : List ℕ) → Body → Made Content
content_as found kind body = value_of found (media_type_of kind) body >>= λ value. made_of (content kind value) (written_as kind body value)

-- the content of a body for an operation that takes these media types, or the first cause why there is none
abbrev pub content_of : (Base → Option Json) → (types : List (List ℕ)) → Body → Made Content
content_of found types body = content_as found (kind_of types body) body
