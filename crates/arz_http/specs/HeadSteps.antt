-- For private clauses: a head a byte at a time, as far as it is neither whole nor spoilt.
use Rattle.std.specs.Prelude.{ℕ, ◌+◌, List, [], ◌∷◌, nat_lt, ◌==◌, if◌then◌else◌, Option, Some, None, codes, slice_index}
use Rattle.std.specs.Option.{option_and_then}
use Rattle.std.specs.Char.{is_ascii_digit}
use Rattle.std.specs.Int.{is_in_range}
use Rattle.httparse.specs.Grammar.{is_token_byte, is_value_byte}
use Rattle.arz_http.specs.declared.head_lines.HeadAt.{HeadAt}
use Rattle.arz_http.specs.declared.head_lines.HeadAt.TheVariants.{Start, StartReturn, Version, Minor, Code, Line, Name, Text, Return, EndReturn}

abbrev pub version_front : List ℕ
version_front = codes "HTTP/1."

-- where a line's text ends
abbrev pub behind_text : ℕ → Option HeadAt
behind_text b = if b == 13 then Some Return else if b == 10 then Some Line else None

-- None where the head has ended with this byte, or can't go on with it
abbrev pub head_next : HeadAt → ℕ → Option HeadAt
head_next Start b = if b == 10 then Some Start else if b == 13 then Some StartReturn else if b == 72 then Some (Version 1) else None
head_next StartReturn b = if b == 10 then Some Start else None
head_next (Version n) b =
    if nat_lt n 7 then (if b == slice_index version_front n then Some (Version (n + 1)) else None)
    else if is_in_range 48 49 b then Some Minor else None
head_next Minor b = if b == 32 then Some (Code 0) else None
head_next (Code n) b =
    if nat_lt n 3 then (if is_ascii_digit b then Some (Code (n + 1)) else None)
    else if b == 32 then Some Text else behind_text b
head_next Line b = if is_token_byte b then Some Name else if b == 13 then Some EndReturn else None
head_next Name b = if is_token_byte b then Some Name else if b == 58 then Some Text else None
head_next Text b = if is_value_byte b then Some Text else behind_text b
head_next Return b = if b == 10 then Some Line else None
head_next EndReturn b = None

-- behind these bytes
abbrev pub followed : HeadAt → List ℕ → Option HeadAt
followed at [] = Some at
followed at (b ∷ bytes) = option_and_then (λ next. followed next bytes) (head_next at b)
