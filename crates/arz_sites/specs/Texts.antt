-- What texts of a description must be.
use Rattle.std.specs.Prelude.{ℕ, ◌==◌, ◌&&◌, ◌||◌, not, nat_lt, Bool, false, List, [], ◌∷◌, map, codes, Option, Some, None, option_and_then, if◌then◌else◌}
use Rattle.std.specs.List.{list_all, list_any}
use Rattle.std.specs.Char.{to_ascii_lowercase}
use Rattle.std.specs.Str.{bytes_eq}
use Rattle.std.specs.Option.{is_some}
use Rattle.arz_json.specs.Texts.{split_once}
use Rattle.arz_expr.specs.Grammar.{is_pointer_byte, is_rooted, escapes_tildes}
use Rattle.arz_components.specs.Texts.{after}
use Rattle.arz_expr.specs.Reading.{reading}
use Rattle.arz_rules.specs.Texts.{is_name, is_token}

-- the same text, where the case of ASCII letters is passed over
abbrev pub is_caseless : List ℕ → List ℕ → Bool
is_caseless left right = bytes_eq (map to_ascii_lowercase left) (map to_ascii_lowercase right)

-- header fields that say how a message is sent, or that a runner writes itself
abbrev pub reserved_headers : List (List ℕ)
reserved_headers =
    codes "host" ∷ codes "connection" ∷ codes "content-length" ∷ codes "content-type" ∷ codes "transfer-encoding" ∷ codes "accept-encoding"
    ∷ codes "cookie" ∷ codes "te" ∷ codes "trailer" ∷ codes "upgrade" ∷ codes "expect" ∷ []

-- the name of a header field that a parameter may give: a token, and none of those
abbrev pub is_header : List ℕ → Bool
is_header text = is_token text && not (list_any (λ word. is_caseless text word) reserved_headers)

-- printable ASCII, the space among it
abbrev pub is_printable : ℕ → Bool
is_printable b = nat_lt 31 b && nat_lt b 127

-- two tokens with `/` between them, the first of which isn't `multipart`
abbrev pub is_pair : Option (List ℕ × List ℕ) → Bool
is_pair None = false
is_pair (Some p) = is_token p.0 && is_token p.1 && not (is_caseless p.0 (codes "multipart"))

abbrev pub is_plain_type : List ℕ → Bool
is_plain_type text = is_pair (split_once 47 text)

abbrev pub is_type_with : List ℕ → Option (List ℕ × List ℕ) → Bool
is_type_with text None = is_plain_type text
is_type_with text (Some p) = is_plain_type p.0 && list_all is_printable p.1

-- a media type (RFC 9110, section 8.3.1), perhaps with `;` and parameters, for which any printable ASCII stands
abbrev pub is_media_type : List ℕ → Bool
is_media_type text = is_type_with text (split_once 59 text)

-- a runtime expression (Arazzo 1.0.1, section 4.7)
abbrev pub is_expression : List ℕ → Bool
is_expression text = is_some (reading text)

abbrev pub begins : List ℕ → List ℕ → Bool
begins text key = is_some (after key text)

-- the text can only mean a value that is recorded or sent
abbrev pub means_value : List ℕ → Bool
means_value text = list_any (begins text) (codes "$inputs." ∷ codes "$outputs." ∷ codes "$steps." ∷ codes "$workflows." ∷ codes "$request." ∷ codes "$response." ∷ [])

-- a text of a value, which is an expression where it can only mean one
abbrev pub is_value_text : List ℕ → Bool
is_value_text text = not (means_value text) || is_expression text

-- ---- operations

abbrev pub if_named : Option (List ℕ × List ℕ) → Option (List ℕ × List ℕ)
if_named None = None
if_named (Some p) = if is_name p.0 then Some p else None

-- a name, and what follows the `.` after it
abbrev pub dotted : List ℕ → Option (List ℕ × List ℕ)
dotted text = if_named (split_once 46 text)

-- of an operationId `$sourceDescriptions.NAME.ID` the source's name and the operation's (Arazzo 1.0.1, section 4.6.5)
abbrev pub source_and_id : List ℕ → Option (List ℕ × List ℕ)
source_and_id text = option_and_then dotted (after (codes "$sourceDescriptions.") text)

-- a JSON Pointer (RFC 6901, section 3) of the bytes that stand in expressions, and of `{` and `}`
abbrev pub is_path_pointer : List ℕ → Bool
is_path_pointer text = is_rooted text && list_all (λ b. is_pointer_byte b || b == 123 || b == 125) text && escapes_tildes text

abbrev pub if_pointer : List ℕ → List ℕ → Option (List ℕ × List ℕ)
if_pointer name pointer = if is_path_pointer pointer then Some (name, pointer) else None

abbrev pub with_pointer : List ℕ × List ℕ → Option (List ℕ × List ℕ)
with_pointer p = option_and_then (if_pointer p.0) (after (codes "url}#") p.1)

-- of an operationPath `{$sourceDescriptions.NAME.url}#POINTER` the source's name and the pointer (Arazzo 1.0.1, section 4.6.5)
abbrev pub source_and_pointer : List ℕ → Option (List ℕ × List ℕ)
source_and_pointer text = option_and_then with_pointer (option_and_then dotted (after (codes "{$sourceDescriptions.") text))

abbrev pub is_operation_path : List ℕ → Bool
is_operation_path text = is_some (source_and_pointer text)
