-- Places as JSON Pointers (RFC 6901).
use Rattle.std.specs.Prelude.{ℕ, ◌==◌, List, [], ◌∷◌, ◌++◌, codes, encode_utf8, if◌then◌else◌}
use Rattle.std.specs.Fmt.{decimal}
use Rattle.arz_json.specs.declared.place.Token.{Token}
use Rattle.arz_json.specs.declared.place.Token.TheVariants.{Name, Index}

-- `~0` stands for `~`, and `~1` for `/` (section 3)
abbrev pub escaped_byte : ℕ → List ℕ
escaped_byte b = if b == 126 then codes "~0" else (if b == 47 then codes "~1" else b ∷ [])

abbrev pub escaped : List ℕ → List ℕ
escaped [] = []
escaped (b ∷ bs) = escaped_byte b ++ escaped bs

-- an index in decimal digits (section 4)
abbrev pub token_text : Token → List ℕ
token_text (Name n) = codes "/" ++ escaped n
token_text (Index i) = codes "/" ++ decimal i

abbrev pub pointer_text : List Token → List ℕ
pointer_text [] = []
pointer_text (t ∷ ts) = token_text t ++ pointer_text ts

-- ---- for private clauses: a character at a time

abbrev pub escaped_char : ℕ → List ℕ
escaped_char c = if c == 126 then codes "~0" else (if c == 47 then codes "~1" else encode_utf8 c)
