-- Which bytes are percent-encoded (RFC 3986, sections 2.1 and 2.3).
use Rattle.std.specs.Prelude.{ℕ, ◌==◌, ◌||◌, Bool, List, [], ◌∷◌, if◌then◌else◌}
use Rattle.std.specs.List.{flat_map}
use Rattle.std.specs.Char.{is_ascii_alphanumeric}
use Rattle.percent_encoding.specs.Percent.{percent_encode_byte}

-- A-Z a-z 0-9 - . _ ~
abbrev pub is_unreserved : ℕ → Bool
is_unreserved b = is_ascii_alphanumeric b || b == 45 || b == 46 || b == 95 || b == 126

-- all other bytes percent-encoded, with digits in upper case
abbrev pub escaped_byte : ℕ → List ℕ
escaped_byte b = if is_unreserved b then b ∷ [] else percent_encode_byte b

abbrev pub escaped : List ℕ → List ℕ
escaped text = flat_map escaped_byte text

-- a text, escaped or as it stands
abbrev pub spelt : (escape : Bool) → List ℕ → List ℕ
spelt escape text = if escape then escaped text else text
