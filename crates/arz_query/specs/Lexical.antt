-- Blanks, names, quoted texts and numbers, read from the left.
use Rattle.std.specs.Prelude.{ℕ, zero, suc, ◌+◌, ◌-◌, ◌*◌, ◌==◌, ◌&&◌, ◌||◌, not, nat_lt, nat_le, Bool, false, List, [], ◌∷◌, ◌++◌, length, if◌then◌else◌, Option, Some, None, option_map, option_and_then, encode_utf8}
use Rattle.std.specs.Char.{is_ascii_digit, is_ascii_lowercase, is_ascii_alphanumeric}
use Rattle.std.specs.Str.{is_utf8}
use Rattle.arz_query.specs.Words.{chosen}
use Rattle.arz_query.specs.declared.words.Class.{Class}
use Rattle.arz_query.specs.declared.words.Class.TheVariants.{Blank, Digit, Name, Function}

-- the bytes of each kind of word: B; DIGIT; name-char; function-name-char
abbrev pub is_of : Class → ℕ → Bool
is_of Blank b = b == 32 || b == 9 || b == 10 || b == 13
is_of Digit b = is_ascii_digit b
is_of Name b = is_ascii_alphanumeric b || b == 95 || nat_le 128 b
is_of Function b = is_ascii_lowercase b || is_ascii_digit b || b == 95

-- the longest run of such bytes, and what follows it
abbrev pub cut : Class → List ℕ → List ℕ × List ℕ
cut class [] = ([], [])
cut class (b ∷ s) = if is_of class b then (b ∷ (cut class s).0, (cut class s).1) else ([], b ∷ s)

-- S
abbrev pub skip_blanks : List ℕ → List ℕ
skip_blanks s = (cut Blank s).1

-- what follows that byte, if it is first
abbrev pub after_byte : ℕ → List ℕ → Option (List ℕ)
after_byte b [] = None
after_byte b (x ∷ xs) = if x == b then Some xs else None

abbrev pub is_next : (ℕ → Bool) → List ℕ → Bool
is_next test [] = false
is_next test (x ∷ xs) = test x

-- S b S
abbrev pub after_mark : ℕ → List ℕ → Option (List ℕ)
after_mark b s = option_map skip_blanks (after_byte b (skip_blanks s))

-- S b b S
abbrev pub after_pair : ℕ → List ℕ → Option (List ℕ)
after_pair b s = option_map skip_blanks (option_and_then (after_byte b) (after_byte b (skip_blanks s)))

-- bytes that are a text
unfoldable pub text_in : List ℕ → Option (List ℕ)
text_in bytes = if is_utf8 bytes then Some bytes else None

abbrev pub texted : List ℕ × List ℕ → Option (List ℕ × List ℕ)
texted p = option_map (λ t. (t, p.1)) (text_in p.0)

-- member-name-shorthand
unfoldable pub name_at : List ℕ → Option (List ℕ × List ℕ)
name_at s =
    if is_next (is_of Name) s && not (is_next is_ascii_digit s) then texted (cut Name s) else None

-- ---- quoted texts

-- the value of a HEXDIG
abbrev pub hex_digit : ℕ → Option ℕ
hex_digit b =
    if is_ascii_digit b then Some (b - 48)
    else if nat_le 97 b && nat_le b 102 then Some (b - 87)
    else if nat_le 65 b && nat_le b 70 then Some (b - 55)
    else None

abbrev pub hex_pair : Option ℕ → Option ℕ → Option ℕ
hex_pair None low = None
hex_pair (Some high) low = option_map (λ n. high * 16 + n) low

-- 2HEXDIG
abbrev pub hex_byte_at : List ℕ → Option (ℕ × List ℕ)
hex_byte_at [] = None
hex_byte_at (x ∷ []) = None
hex_byte_at (x ∷ y ∷ s) = option_map (λ n. (n, s)) (hex_pair (hex_digit x) (hex_digit y))

abbrev pub with_high : ℕ → ℕ × List ℕ → ℕ × List ℕ
with_high high low = (high * 256 + low.0, low.1)

-- 4HEXDIG
unfoldable pub hex_at : List ℕ → Option (ℕ × List ℕ)
hex_at s = option_and_then (λ high. option_map (with_high high.0) (hex_byte_at high.1)) (hex_byte_at s)

-- the scalar value that a high and a low surrogate are
abbrev pub joined : ℕ → ℕ → ℕ
joined high low = 65536 + (high - 55296) * 1024 + (low - 56320)

abbrev pub with_low : ℕ → ℕ × List ℕ → Option (ℕ × List ℕ)
with_low high low = if nat_le 56320 low.0 && nat_le low.0 57343 then Some (joined high low.0, low.1) else None

-- "\" %x75 low-surrogate
abbrev pub low_at : ℕ → List ℕ → Option (ℕ × List ℕ)
low_at high s = option_and_then (with_low high) (option_and_then hex_at (option_and_then (after_byte 117) (after_byte 92 s)))

-- a scalar value of Unicode, and no surrogate
abbrev pub is_scalar : ℕ → Bool
is_scalar c = nat_lt c 55296 || (nat_le 57344 c && nat_lt c 1114112)

abbrev pub hex_char_of : ℕ × List ℕ → Option (ℕ × List ℕ)
hex_char_of c =
    if nat_le 55296 c.0 && nat_le c.0 56319 then low_at c.0 c.1
    else if is_scalar c.0 then Some c else None

-- hexchar
unfoldable pub hex_char_at : List ℕ → Option (ℕ × List ℕ)
hex_char_at s = option_and_then hex_char_of (hex_at s)

-- the character that a letter behind a backslash stands for
unfoldable pub escaped : ℕ → Option ℕ
escaped b =
    if b == 98 then Some 8 else if b == 102 then Some 12 else if b == 110 then Some 10
    else if b == 114 then Some 13 else if b == 116 then Some 9
    else if b == 47 || b == 92 then Some b else None

-- what follows a backslash: the quote itself, or escapable
unfoldable pub escape_at : ℕ → List ℕ → Option (ℕ × List ℕ)
escape_at quote [] = None
escape_at quote (x ∷ xs) =
    if x == 117 then hex_char_at xs
    else if x == quote then Some (x, xs)
    else option_map (λ c. (c, xs)) (escaped x)

-- a byte that isn't escaped, or the bytes of a character that is
unfoldable pub piece_at : ℕ → List ℕ → Option (List ℕ × List ℕ)
piece_at quote [] = None
piece_at quote (x ∷ xs) =
    if x == 92 then option_map (λ c. (encode_utf8 c.0, c.1)) (escape_at quote xs)
    else if nat_lt x 32 then None
    else Some (x ∷ [], xs)

abbrev pub behind : List ℕ → List ℕ × List ℕ → List ℕ × List ℕ
behind front p = (front ++ p.0, p.1)

-- the pieces up to the quote
unfoldable pub quoted_within : ℕ → ℕ → List ℕ → Option (List ℕ × List ℕ)
quoted_within zero quote s = None
quoted_within (suc n) quote s =
    chosen (after_byte quote s) (λ rest. Some ([], rest))
    (option_and_then (λ p. option_map (behind p.0) (quoted_within n quote p.1)) (piece_at quote s))

-- string-literal, behind its first quote
unfoldable pub quoted_at : ℕ → List ℕ → Option (List ℕ × List ℕ)
quoted_at quote s = option_and_then texted (quoted_within (length s) quote s)
