-- How two values compare in a simple condition. Arazzo 1.0.1, section 4.6.11.1, has the operators and takes texts without
-- regard to case; which kinds compare at all is this project's own table. None is a value that isn't there.
use Rattle.std.specs.Prelude.{ℕ, ◌^◌, ◌==◌, ◌&&◌, ◌||◌, not, ℤ, pos, neg_ℤ, int_lt, List, length, slice_index, codes, chars, encode_utf8_all, Bool, true, false, nat_lt, nat_le, if◌then◌else◌, Option, Some, None, option_map, option_and_then}
use Rattle.std.specs.Ordering.{nat_cmp, is_lt, int_eq}
use Rattle.std.specs.Cmp.Lexicographic.{slice_cmp}
use Rattle.std.specs.List.{list_all}
use Rattle.std.specs.Char.{is_ascii_digit}
use Rattle.std.specs.Str.{bytes_eq}
use Rattle.std.specs.Str.Parse.{digits_value}
use Rattle.caseless.specs.Caseless.{default_case_fold}
use Rattle.arz_json.specs.declared.tree.Json.{Json, out-Json}
use Rattle.arz_json.specs.declared.tree.Json.TheOpen.{Json-F}
use Rattle.arz_json.specs.declared.tree.Member.{Member}
use Rattle.arz_query.specs.Words.{chosen}
use Rattle.arz_expr.specs.Reading.{after}
use Rattle.arz_path.specs.Values.{is_same}
use Rattle.arz_cond.specs.declared.term.Comparison.{Comparison}
use Rattle.arz_cond.specs.declared.term.Comparison.TheVariants.{Equal, Unequal, Less, LessOrEqual, Greater, GreaterOrEqual}

-- ---- texts

-- the characters with case folded: toCasefold of the Unicode Standard, section 3.13, Default Case Folding
abbrev pub folded : List ℕ → List ℕ
folded text = default_case_fold (chars text)

-- the default caseless match (section 3.13, Default Caseless Matching)
unfoldable pub same_text : List ℕ → List ℕ → Bool
same_text s t = bytes_eq (folded s) (folded t)

-- by the bytes of the folded texts
unfoldable pub less_text : List ℕ → List ℕ → Bool
less_text s t = is_lt (slice_cmp nat_cmp (encode_utf8_all (folded s)) (encode_utf8_all (folded t)))

-- "0", or digits that don't begin with one
abbrev pub is_numeral : List ℕ → Bool
is_numeral digits = nat_lt 0 (length digits) && list_all is_ascii_digit digits && (length digits == 1 || not (slice_index digits 0 == 48))

abbrev pub below_64_bits : ℕ → Option ℕ
below_64_bits n = if nat_lt n (2 ^ 64) then Some n else None

-- the number below 2^64 that digits spell
unfoldable pub numeral_in : List ℕ → Option ℕ
numeral_in digits = if is_numeral digits then below_64_bits (digits_value 10 digits) else None

abbrev pub negated : ℕ → Option ℤ
negated n = if nat_le n (2 ^ 63) then Some (neg_ℤ (pos n)) else None

-- the integer of -2^63 to 2^64 - 1 that a text is: digits, perhaps behind a minus
unfoldable pub integer_in : List ℕ → Option ℤ
integer_in text = chosen (after (codes "-") text) (λ digits. option_and_then negated (numeral_in digits)) (option_map pos (numeral_in text))

-- ---- the table

pub data Row : Type 0 where
  Nulls : Row
  Flags : Bool → Bool → Row
  Ints : ℤ → ℤ → Row
  Texts : List ℕ → List ℕ → Row
  Trees : Json → Json → Row
  Unlike : Row

abbrev pub ints : Option ℤ → Option ℤ → Row
ints (Some y) (Some z) = Ints y z
ints _ _ = Unlike

-- the row of two values: nulls, flags, integers, texts, an integer and a text that is one, lists, objects; and any other two
abbrev pub row_in : Json → Json → Json-F Json Member → Json-F Json Member → Row
row_in j k Json-F.Null Json-F.Null = Nulls
row_in j k (Json-F.Flag b) (Json-F.Flag c) = Flags b c
row_in j k (Json-F.Int y) (Json-F.Int z) = Ints y z
row_in j k (Json-F.Text s) (Json-F.Text t) = Texts s t
row_in j k (Json-F.Int y) (Json-F.Text t) = ints (Some y) (integer_in t)
row_in j k (Json-F.Text s) (Json-F.Int z) = ints (integer_in s) (Some z)
row_in j k (Json-F.List js) (Json-F.List ks) = Trees j k
row_in j k (Json-F.Object ms) (Json-F.Object ns) = Trees j k
row_in j k _ _ = Unlike

abbrev pub row : Option Json → Option Json → Row
row (Some j) (Some k) = row_in j k (out-Json j) (out-Json k)
row _ _ = Unlike

-- ---- what the operators say of a row

-- nulls and flags by value, integers as integers, texts without regard to case, trees where they are one
abbrev pub equals : Row → Bool
equals Nulls = true
equals (Flags b c) = if b then c else not c
equals (Ints y z) = int_eq y z
equals (Texts s t) = same_text s t
equals (Trees j k) = is_same j k
equals Unlike = false

-- integers and texts alone have an order
abbrev pub has_order : Row → Bool
has_order (Ints y z) = true
has_order (Texts s t) = true
has_order _ = false

abbrev pub less : Row → Bool
less (Ints y z) = int_lt y z
less (Texts s t) = less_text s t
less _ = false

-- the other way round, where there is an order
abbrev pub greater : Row → Bool
greater (Ints y z) = int_lt z y
greater (Texts s t) = less_text t s
greater _ = false

-- equal, where there is an order
abbrev pub ties : Row → Bool
ties r = has_order r && equals r

abbrev pub compared : Comparison → Row → Bool
compared Equal r = equals r
compared Unequal r = not (equals r)
compared Less r = less r
compared LessOrEqual r = ties r || less r
compared Greater r = greater r
compared GreaterOrEqual r = ties r || greater r
