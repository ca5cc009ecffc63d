-- Reading a condition from the left. Private clauses cite this; the grammar is in Grammar.
use Rattle.std.specs.Prelude.{ℕ, zero, suc, ◌==◌, Bool, true, false, ℤ, List, [], ◌∷◌, length, codes, if◌then◌else◌, Option, Some, None, option_map, option_and_then}
use Rattle.std.specs.Char.{is_ascii_digit, is_ascii_lowercase}
use Rattle.std.specs.Str.{bytes_eq}
use Rattle.arz_query.specs.Words.{chosen, Read as Number}
use Rattle.arz_query.specs.Lexical.{after_byte, text_in, texted}
use Rattle.arz_query.specs.Numbers.{Whole, literal_at}
use Rattle.arz_query.specs.declared.pieces.Flaw.{Flaw}
use Rattle.arz_query.specs.declared.pieces.FlawKind.{FlawKind}
use Rattle.arz_query.specs.declared.pieces.FlawKind.TheVariants as flaw
use Rattle.arz_expr.specs.Grammar.{is_pointer_byte}
use Rattle.arz_expr.specs.Reading.{reading as expression_of}
use Rattle.arz_cond.specs.Words.{Read, Reader, with_value, with_rest, items_at}
use Rattle.arz_cond.specs.Grammar.{run, is_blank, without_blanks, one_or}
use Rattle.arz_cond.specs.declared.words.Class.{Class}
use Rattle.arz_cond.specs.declared.words.Class.TheVariants.{Blank, Digit, Letter, Expression}
use Rattle.arz_cond.specs.declared.numbers.Whole.{Whole as WholeCode}
use Rattle.arz_cond.specs.declared.term.Term.{Term}
use Rattle.arz_cond.specs.declared.term.Term.TheVariants.{Any, All, Not, Compare, Literal as LiteralOf, Value}
use Rattle.arz_cond.specs.declared.term.Literal.{Literal}
use Rattle.arz_cond.specs.declared.term.Literal.TheVariants.{Null, Flag, Int, Text}
use Rattle.arz_cond.specs.declared.term.Comparison.{Comparison}
use Rattle.arz_cond.specs.declared.term.Comparison.TheVariants.{Equal, Unequal, Less, LessOrEqual, Greater, GreaterOrEqual}

-- ---- tokens

-- the bytes of each kind of token
abbrev pub is_of : Class → ℕ → Bool
is_of Blank b = is_blank b
is_of Digit b = is_ascii_digit b
is_of Letter b = is_ascii_lowercase b
is_of Expression b = is_pointer_byte b

-- that byte twice, with the blanks on both sides
abbrev pub after_pair : ℕ → List ℕ → Option (List ℕ)
after_pair b s = option_map without_blanks (option_and_then (after_byte b) (after_byte b (without_blanks s)))

abbrev pub found : {V : Type 0} → List ℕ → V → Read V
found rest value = record { value = value; rest = rest }

-- an expression: all bytes that may belong to one
abbrev pub expression_in : List ℕ × List ℕ → Option (Read Term)
expression_in c = option_map (λ e. found c.1 (Value e)) (option_and_then expression_of (text_in c.0))

unfoldable pub expression_at : Reader Term
expression_at s = expression_in (run is_pointer_byte s)

-- ---- literals

unfoldable pub keyword_of : List ℕ → List ℕ → Option (Read Literal)
keyword_of word rest =
    if bytes_eq word (codes "true") then Some (found rest (Flag true))
    else if bytes_eq word (codes "false") then Some (found rest (Flag false))
    else if bytes_eq word (codes "null") then Some (found rest Null)
    else None

abbrev pub keyword_at : Reader Literal
keyword_at s = keyword_of (run is_ascii_lowercase s).0 (run is_ascii_lowercase s).1

abbrev pub fraction_as : Bool → FlawKind → Option Literal
fraction_as fractions flaw.IllTyped = None
fraction_as fractions flaw.Fraction = if fractions then Some Null else None
fraction_as fractions flaw.IntegerRange = None

-- a number, by its flaw
abbrev pub number_as : Bool → ℤ → Option Flaw → Option Literal
number_as fractions z None = Some (Int z)
number_as fractions z (Some f) = fraction_as fractions f.kind

abbrev pub number_of : Bool → Number ℤ → Option (Read Literal)
number_of fractions one = option_map (found one.rest) (number_as fractions one.value one.marks.flaw)

unfoldable pub number_at : Bool → Reader Literal
number_at fractions s = option_and_then (number_of fractions) (literal_at s)

-- a character of a quoted text, or two quotes for one
abbrev pub character_at : List ℕ → Option (ℕ × List ℕ)
character_at [] = None
character_at (x ∷ xs) = if x == 39 then option_map (λ r. (x, r)) (after_byte 39 xs) else Some (x, xs)

abbrev pub with_byte : ℕ → List ℕ × List ℕ → List ℕ × List ℕ
with_byte b p = (b ∷ p.0, p.1)

abbrev pub ended : List ℕ → Option (List ℕ × List ℕ)
ended s = option_map (λ r. ([], r)) (after_byte 39 s)

-- at most so many characters, and the last quote
unfoldable pub quoted_within : ℕ → List ℕ → Option (List ℕ × List ℕ)
quoted_within zero s = None
quoted_within (suc n) s = chosen (character_at s) (λ c. option_map (with_byte c.0) (quoted_within n c.1)) (ended s)

-- what stands behind the first quote
unfoldable pub quoted_at : List ℕ → Option (List ℕ × List ℕ)
quoted_at s = option_and_then texted (quoted_within (length s) s)

abbrev pub text_at : Reader Literal
text_at s = option_map (λ t. found t.1 (Text t.0)) (quoted_at s)

abbrev pub literal : Read Literal → Read Term
literal = with_value LiteralOf

-- literal | expression
unfoldable pub plain_at : Bool → Reader Term
plain_at fractions [] = None
plain_at fractions (x ∷ xs) =
    if x == 36 then expression_at (x ∷ xs)
    else if x == 39 then option_map literal (text_at xs)
    else if is_ascii_lowercase x then option_map literal (keyword_at (x ∷ xs))
    else option_map literal (number_at fractions (x ∷ xs))

-- ---- conditions. `below` reads what stands behind "!", with less room for nesting.

unfoldable pub operator_at : List ℕ → Option (Comparison × List ℕ)
operator_at [] = None
operator_at (x ∷ xs) =
    if x == 61 then option_map (λ t. (Equal, t)) (after_byte 61 xs)
    else if x == 33 then option_map (λ t. (Unequal, t)) (after_byte 61 xs)
    else if x == 60 then chosen (after_byte 61 xs) (λ t. Some (LessOrEqual, t)) (Some (Less, xs))
    else if x == 62 then chosen (after_byte 61 xs) (λ t. Some (GreaterOrEqual, t)) (Some (Greater, xs))
    else None

abbrev pub compared : Read Term → Comparison → Read Term → Read Term
compared one by other = record { value = Compare one.value by other.value; rest = other.rest }

-- what follows an operator
abbrev pub other_of : Reader Term → Read Term → Comparison × List ℕ → Option (Read Term)
other_of below one c = option_map (compared one c.0) (below (without_blanks c.1))

abbrev pub compared_with : Reader Term → Read Term → Option (Read Term)
compared_with below one = chosen (operator_at (without_blanks one.rest)) (other_of below one) (Some one)

-- cmp
unfoldable pub comparison_of : Reader Term → Reader Term
comparison_of below s = option_and_then (compared_with below) (below s)

-- and
unfoldable pub and_of : Reader Term → Reader Term
and_of below s = option_map (with_value (one_or All)) (items_at (after_pair 38) (comparison_of below) s)

-- or
unfoldable pub or_of : Reader Term → Reader Term
or_of below s = option_map (with_value (one_or Any)) (items_at (after_pair 124) (and_of below) s)

abbrev pub closed : Read Term → Option (Read Term)
closed one = option_map (with_rest one) (after_byte 41 (without_blanks one.rest))

abbrev pub negated : Read Term → Read Term
negated = with_value Not

-- not
unfoldable pub not_of : Bool → Reader Term → Reader Term
not_of fractions below [] = None
not_of fractions below (x ∷ xs) =
    if x == 33 then option_map negated (below (without_blanks xs))
    else if x == 40 then option_and_then closed (or_of below (without_blanks xs))
    else plain_at fractions (x ∷ xs)

-- not, where so many parentheses and "!" may be opened
unfoldable pub not_at : Bool → ℕ → Reader Term
not_at fractions zero s = plain_at fractions s
not_at fractions (suc n) s = not_of fractions (not_at fractions n) s

abbrev pub is_empty : List ℕ → Bool
is_empty [] = true
is_empty (x ∷ xs) = false

abbrev pub whole : Read Term → Option Term
whole one = if is_empty one.rest then Some one.value else None

-- a whole condition
unfoldable pub reading : Bool → List ℕ → Option Term
reading fractions s = option_and_then whole (or_of (not_at fractions 64) s)

-- ---- what the code answers

abbrev pub as_whole : WholeCode → Whole
as_whole w = record { negative = w.negative; digits = w.digits.now; rest = w.rest.now }
