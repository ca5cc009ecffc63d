-- Media types (RFC 9110, section 8.3.1), and how a payload of each is written.
use Rattle.std.specs.Prelude.{ℕ, ◌==◌, ◌&&◌, ◌||◌, not, nat_lt, nat_eq, Bool, true, false, List, [], ◌∷◌, map, reverse, codes, if◌then◌else◌, Option, Some, None}
use Rattle.std.specs.List.{list_all, ends_with, before_first}
use Rattle.std.specs.Char.{to_ascii_lowercase}
use Rattle.std.specs.Str.{bytes_eq, str_to_ascii_lowercase}
use Rattle.arz_json.specs.Texts.{split_once}
use Rattle.arz_rules.specs.Texts.{is_token}
use Rattle.arz_request.specs.declared.media_types.MediaType.{MediaType}
use Rattle.arz_request.specs.declared.media_types.MediaType.TheVariants.{Json, Form, Text}

-- ---- what may be sent: `type/subtype` of two tokens, of which the first isn't `multipart`, perhaps with `;` and
-- parameters, for which any printable ASCII stands

abbrev pub is_printable : ℕ → Bool
is_printable b = nat_lt 31 b && nat_lt b 127

abbrev pub is_multipart : List ℕ → Bool
is_multipart type = bytes_eq (map to_ascii_lowercase type) (codes "multipart")

abbrev pub is_pair : Option (List ℕ × List ℕ) → Bool
is_pair None = false
is_pair (Some p) = is_token p.0 && is_token p.1 && not (is_multipart p.0)

abbrev pub is_plain_type : List ℕ → Bool
is_plain_type text = is_pair (split_once 47 text)

abbrev pub is_type_with : List ℕ → Option (List ℕ × List ℕ) → Bool
is_type_with text None = is_plain_type text
is_type_with text (Some p) = is_plain_type p.0 && list_all is_printable p.1

abbrev pub is_sendable : List ℕ → Bool
is_sendable text = is_type_with text (split_once 59 text)

-- ---- the type without its parameters, in lower case

abbrev pub is_blank : ℕ → Bool
is_blank b = b == 32 || b == 9

abbrev pub skip_blanks : List ℕ → List ℕ
skip_blanks [] = []
skip_blanks (b ∷ text) = if is_blank b then skip_blanks text else b ∷ text

abbrev pub trimmed : List ℕ → List ℕ
trimmed text = reverse (skip_blanks (reverse (skip_blanks text)))

abbrev pub essence : List ℕ → List ℕ
essence kind = str_to_ascii_lowercase (trimmed (before_first (λ b. b == 59) kind))

-- ---- how a payload is written

abbrev pub is_json : List ℕ → Bool
is_json type = bytes_eq type (codes "application/json") || ends_with nat_eq type (codes "+json")

abbrev pub is_form : List ℕ → Bool
is_form type = bytes_eq type (codes "application/x-www-form-urlencoded")

abbrev pub media_type_in : List ℕ → MediaType
media_type_in type = if is_json type then Json else (if is_form type then Form else Text)

abbrev pub media_type_of : (kind : List ℕ) → MediaType
media_type_of kind = media_type_in (essence kind)

abbrev pub is_as_json : MediaType → Bool
is_as_json Json = true
is_as_json Form = false
is_as_json Text = false
