-- Normalized paths (RFC 9535, section 2.7).
use Rattle.std.specs.Prelude.{ℕ, ◌+◌, ◌/◌, ◌%◌, ◌==◌, nat_lt, List, [], ◌∷◌, ◌++◌, codes, decimal, if◌then◌else◌}
use Rattle.std.specs.List.{flat_map}
use Rattle.arz_json.specs.declared.place.Token.{Token}
use Rattle.arz_json.specs.declared.place.Token.TheVariants.{Name, Index}

-- normal-HEXDIG: a digit, or a letter in lower case
abbrev pub hex_digit : ℕ → ℕ
hex_digit n = if nat_lt n 10 then 48 + n else 87 + n

-- normal-single-quoted, byte by byte: an escape for `'`, `\` and what is below a space
abbrev pub quoted_byte : ℕ → List ℕ
quoted_byte b =
    if b == 8 then codes "\\b"
    else if b == 9 then codes "\\t"
    else if b == 10 then codes "\\n"
    else if b == 12 then codes "\\f"
    else if b == 13 then codes "\\r"
    else if b == 39 then codes "\\'"
    else if b == 92 then codes "\\\\"
    else if nat_lt b 32 then codes "\\u00" ++ (hex_digit (b / 16) ∷ hex_digit (b % 16) ∷ [])
    else b ∷ []

-- normal-index-selector and normal-name-selector, in their brackets
abbrev pub step_text : Token → List ℕ
step_text (Index i) = codes "[" ++ decimal i ++ codes "]"
step_text (Name name) = codes "['" ++ flat_map quoted_byte name ++ codes "']"

-- normalized-path
abbrev pub normalized : List Token → List ℕ
normalized tokens = codes "$" ++ flat_map step_text tokens
