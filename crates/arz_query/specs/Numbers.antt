-- Numbers, read from the left.
use Rattle.std.specs.Prelude.{ℕ, ◌+◌, ◌-◌, ◌*◌, ◌^◌, ◌==◌, ◌&&◌, ◌||◌, not, nat_le, Bool, true, false, ℤ, pos, neg_ℤ, List, [], ◌∷◌, length, if◌then◌else◌, Option, Some, None, option_map, option_and_then}
use Rattle.arz_query.specs.Words.{Read, Reader, chosen, fine, flawed}
use Rattle.arz_query.specs.Lexical.{cut, is_next, is_of, after_byte}
use Rattle.arz_query.specs.declared.words.Class.TheVariants.{Digit}
use Rattle.arz_query.specs.declared.numbers.Whole.{Whole as WholeCode}
use Rattle.arz_query.specs.declared.pieces.FlawKind.TheVariants.{Fraction, IntegerRange}

-- the value with one more digit, where it is at most the limit
abbrev pub digit_behind : ℕ → ℕ → ℕ → Option ℕ
digit_behind limit value d = if nat_le (value * 10 + (d - 48)) limit then Some (value * 10 + (d - 48)) else None

-- the value of digits behind others, where it is at most the limit
abbrev pub number_from : ℕ → ℕ → List ℕ → Option ℕ
number_from limit value [] = Some value
number_from limit value (d ∷ ds) = option_and_then (λ n. number_from limit n ds) (digit_behind limit value d)

abbrev pub is_empty : List ℕ → Bool
is_empty [] = true
is_empty (x ∷ xs) = false

-- "0" / DIGIT1 *DIGIT
abbrev pub are_digits : Bool → List ℕ → Bool
are_digits may_be_zero [] = false
are_digits may_be_zero (d ∷ ds) = not (d == 48) || (is_empty ds && may_be_zero)

-- a whole number: whether it has a minus, its digits, and what follows
pub record Whole : Type 0 where
  pub negative : Bool
  pub digits : List ℕ
  pub rest : List ℕ

abbrev pub whole_of : Bool → Bool → List ℕ × List ℕ → Option Whole
whole_of minus_zero negative c =
    if are_digits (minus_zero || not negative) c.0 then Some (record { negative = negative; digits = c.0; rest = c.1 }) else None

-- int, or int / "-0" where minus_zero is true
unfoldable pub whole_at : Bool → List ℕ → Option Whole
whole_at minus_zero s =
    chosen (after_byte 45 s) (λ t. whole_of minus_zero true (cut Digit t)) (whole_of minus_zero false (cut Digit s))

abbrev pub signed : Bool → ℕ → ℤ
signed negative n = if negative then neg_ℤ (pos n) else pos n

-- a number that stands where so many bytes are left: its value, or the flaw of one that is past the range
abbrev pub ranged : ℕ → Bool → List ℕ → Option ℕ → Read ℤ
ranged left negative rest None = record { value = pos 0; marks = flawed IntegerRange left; rest = rest }
ranged left negative rest (Some n) = record { value = signed negative n; marks = fine; rest = rest }

abbrev pub index_limit : ℕ
index_limit = 2 ^ 53 - 1

abbrev pub index_of : ℕ → Whole → Read ℤ
index_of left w = ranged left w.negative w.rest (number_from index_limit 0 w.digits)

-- int, as an index or a part of a slice: -(2^53 - 1) to 2^53 - 1
unfoldable pub index_at : Reader ℤ
index_at s = option_map (index_of (length s)) (whole_at false s)

-- 1*DIGIT
abbrev pub digits_at : List ℕ → Option (List ℕ)
digits_at s = if is_next (is_of Digit) s then Some (cut Digit s).1 else None

-- [ "+" / "-" ]
abbrev pub after_sign : List ℕ → List ℕ
after_sign s = chosen (after_byte 45 s) (λ t. t) (chosen (after_byte 43 s) (λ t. t) s)

abbrev pub exponent_of : List ℕ → Option (List ℕ)
exponent_of t = digits_at (after_sign t)

-- [ exp ]
abbrev pub exponent_at : List ℕ → Option (List ℕ)
exponent_at s = chosen (after_byte 101 s) exponent_of (chosen (after_byte 69 s) exponent_of (Some s))

-- [ frac ] [ exp ]
unfoldable pub fraction_at : List ℕ → Option (List ℕ)
fraction_at s = option_and_then exponent_at (chosen (after_byte 46 s) digits_at (Some s))

abbrev pub begins_fraction : ℕ → Bool
begins_fraction b = b == 46 || b == 101 || b == 69

abbrev pub fraction_of : ℕ → List ℕ → Read ℤ
fraction_of left rest = record { value = pos 0; marks = flawed Fraction left; rest = rest }

-- -2^63 to 2^64 - 1
abbrev pub literal_limit : Bool → ℕ
literal_limit negative = if negative then 2 ^ 63 else 2 ^ 64 - 1

abbrev pub literal_of : ℕ → Whole → Option (Read ℤ)
literal_of left w =
    if is_next begins_fraction w.rest then option_map (fraction_of left) (fraction_at w.rest)
    else Some (ranged left w.negative w.rest (number_from (literal_limit w.negative) 0 w.digits))

-- number
unfoldable pub literal_at : Reader ℤ
literal_at s = option_and_then (literal_of (length s)) (whole_at true s)

-- ---- what the code answers

abbrev pub as_whole : WholeCode → Whole
as_whole w = record { negative = w.negative; digits = w.digits.now; rest = w.rest.now }
