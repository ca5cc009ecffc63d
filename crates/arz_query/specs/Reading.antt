-- Reading a query from the left. `below` reads an expression with less room for nesting.
use Rattle.std.specs.Prelude.{ℕ, zero, suc, ◌==◌, ◌&&◌, ◌||◌, not, Bool, true, false, ℤ, pos, List, [], ◌∷◌, length, codes, if◌then◌else◌, Option, Some, None, option_map, option_and_then, unwrap_or}
use Rattle.std.specs.Char.{is_ascii_digit, is_ascii_lowercase}
use Rattle.std.specs.Str.{bytes_eq}
use Rattle.arz_query.specs.Words.{Read, Reader, chosen, list_of_one, fine, joined, plural, with_value, with_rest, with_front, no_more, more_at, items_at}
use Rattle.arz_query.specs.Lexical.{cut, is_of, is_next, skip_blanks, after_byte, after_mark, after_pair, name_at, quoted_at}
use Rattle.arz_query.specs.Numbers.{is_empty, index_at, literal_at}
use Rattle.arz_query.specs.Typing.{operand_of, is_value, ill_unless, as_test, call_of}
use Rattle.arz_query.specs.declared.words.Class.TheVariants as class
use Rattle.arz_query.specs.declared.terms.Term.{Term}
use Rattle.arz_query.specs.declared.terms.Term.TheVariants as term
use Rattle.arz_query.specs.declared.query.Segment.{Segment}
use Rattle.arz_query.specs.declared.query.Segment.TheVariants.{Child, Descendant}
use Rattle.arz_query.specs.declared.query.Selector.{Selector}
use Rattle.arz_query.specs.declared.query.Selector.TheVariants as selector
use Rattle.arz_query.specs.declared.query.Test.{Test}
use Rattle.arz_query.specs.declared.query.Test.TheVariants.{Any, All, Not, Compare}
use Rattle.arz_query.specs.declared.query.Operand.TheVariants as operand
use Rattle.arz_query.specs.declared.query.Start.{Start}
use Rattle.arz_query.specs.declared.query.Start.TheVariants.{Root, Current}
use Rattle.arz_query.specs.declared.query.Comparison.{Comparison}
use Rattle.arz_query.specs.declared.query.Comparison.TheVariants.{Equal, Unequal, Less, LessOrEqual, Greater, GreaterOrEqual}

-- ---- selectors

abbrev pub begins_int : ℕ → Bool
begins_int b = is_ascii_digit b || b == 45

abbrev pub no_bound : List ℕ → Read (Option ℤ)
no_bound s = record { value = None; marks = fine; rest = s }

abbrev pub some_bound : Read ℤ → Read (Option ℤ)
some_bound = with_value Some

abbrev pub with_blanks : Read (Option ℤ) → Read (Option ℤ)
with_blanks one = with_rest one (skip_blanks one.rest)

-- [ int S ]
unfoldable pub bound_at : Reader (Option ℤ)
bound_at s = if is_next begins_int s then option_map (λ one. with_blanks (some_bound one)) (index_at s) else Some (no_bound s)

abbrev pub slice_of : Read (Option ℤ) → Read (Option ℤ) → Read (Option ℤ) → Read Selector
slice_of start end step = record {
  value = selector.Slice (record { start = start.value; end = end.value; step = unwrap_or step.value (pos 1) });
  marks = plural (joined (joined start.marks end.marks) step.marks);
  rest = step.rest;
}

-- [ S step ]
unfoldable pub step_at : Reader (Option ℤ)
step_at s = if is_next begins_int (skip_blanks s) then option_map some_bound (index_at (skip_blanks s)) else Some (no_bound s)

abbrev pub slice_step : Read (Option ℤ) → Read (Option ℤ) → List ℕ → Option (Read Selector)
slice_step start end t = option_map (slice_of start end) (step_at t)

abbrev pub slice_end : Read (Option ℤ) → Read (Option ℤ) → Option (Read Selector)
slice_end start end = chosen (after_byte 58 end.rest) (slice_step start end) (Some (slice_of start end (no_bound end.rest)))

-- what follows the first ":" of a slice
abbrev pub slice_begun : Read (Option ℤ) → List ℕ → Option (Read Selector)
slice_begun start t = option_and_then (slice_end start) (bound_at (skip_blanks t))

abbrev pub index_of : Read ℤ → Read Selector
index_of = with_value selector.Index

abbrev pub index_or_slice : Read ℤ → Option (Read Selector)
index_or_slice one = chosen (after_byte 58 (skip_blanks one.rest)) (slice_begun (some_bound one)) (Some (index_of one))

-- index-selector / slice-selector
unfoldable pub numbered_at : Reader Selector
numbered_at s =
    if is_next begins_int s then option_and_then index_or_slice (index_at s)
    else option_and_then (slice_begun (no_bound s)) (after_byte 58 s)

abbrev pub named : List ℕ × List ℕ → Read Selector
named n = record { value = selector.Name n.0; marks = fine; rest = n.1 }

abbrev pub wildcard : List ℕ → Read Selector
wildcard s = record { value = selector.Wildcard; marks = plural fine; rest = s }

abbrev pub filtered : Read Test → Read Selector
filtered t = record { value = selector.Filter t.value; marks = plural t.marks; rest = t.rest }

-- an expression that is a test
unfoldable pub tested : Reader Term → Reader Test
tested reader s = option_and_then (as_test (length s)) (reader s)

-- selector
unfoldable pub selector_of : Reader Term → Reader Selector
selector_of below [] = None
selector_of below (x ∷ xs) =
    if x == 39 || x == 34 then option_map named (quoted_at x xs)
    else if x == 42 then Some (wildcard xs)
    else if x == 63 then option_map filtered (tested below (skip_blanks xs))
    else numbered_at (x ∷ xs)

-- S "," S
unfoldable pub comma : List ℕ → Option (List ℕ)
comma s = after_mark 44 s

abbrev pub is_blank : List ℕ → Bool
is_blank s = is_next (is_of class.Blank) s

abbrev pub is_one : {V : Type 0} → List V → Bool
is_one [] = false
is_one (v ∷ vs) = is_empty_list vs
  where
    is_empty_list : {V : Type 0} → List V → Bool
    is_empty_list [] = true
    is_empty_list (v ∷ vs) = false

-- a singular query has no blank inside the brackets, and one selector
abbrev pub closed_by : List ℕ → Read (List Selector) → List ℕ → Read (List Selector)
closed_by s all rest = record {
  value = all.value;
  marks = record { flaw = all.marks.flaw; single = all.marks.single && is_one all.value && not (is_blank s) && not (is_blank all.rest) };
  rest = rest;
}

abbrev pub selection_closed : List ℕ → Read (List Selector) → Option (Read (List Selector))
selection_closed s all = option_map (closed_by s all) (after_byte 93 (skip_blanks all.rest))

-- bracketed-selection, behind its "["
unfoldable pub selection_of : Reader Term → Reader (List Selector)
selection_of below s = option_and_then (selection_closed s) (items_at comma (selector_of below) (skip_blanks s))

-- ---- segments

-- wildcard-selector / member-name-shorthand
unfoldable pub shorthand_at : Reader (List Selector)
shorthand_at s = chosen (after_byte 42 s) (λ t. Some (list_of_one (wildcard t))) (option_map (λ n. list_of_one (named n)) (name_at s))

abbrev pub child : Read (List Selector) → Read Segment
child = with_value Child

abbrev pub descendant : Read (List Selector) → Read Segment
descendant all = record { value = Descendant all.value; marks = plural all.marks; rest = all.rest }

-- what follows ".."
abbrev pub descendant_of : Reader Term → Reader Segment
descendant_of below s = option_map descendant (chosen (after_byte 91 s) (selection_of below) (shorthand_at s))

-- what follows "."
abbrev pub dotted_of : Reader Term → Reader Segment
dotted_of below s = chosen (after_byte 46 s) (descendant_of below) (option_map child (shorthand_at s))

-- segment
unfoldable pub segment_of : Reader Term → Reader Segment
segment_of below s =
    chosen (after_byte 91 s) (λ t. option_map child (selection_of below t))
    (option_and_then (dotted_of below) (after_byte 46 s))

abbrev pub begins_segment : ℕ → Bool
begins_segment b = b == 91 || b == 46

-- S, before a segment
unfoldable pub segment_start : List ℕ → Option (List ℕ)
segment_start s = if is_next begins_segment (skip_blanks s) then Some (skip_blanks s) else None

-- segments
unfoldable pub segments_of : Reader Term → Reader (List Segment)
segments_of below s = more_at (length s) segment_start (segment_of below) s

-- ---- expressions

abbrev pub literal : operand.the_data → List ℕ → Read Term
literal o s = record { value = term.Literal o; marks = fine; rest = s }

-- string-literal, behind its first quote
abbrev pub text_literal_at : ℕ → Reader Term
text_literal_at quote s = option_map (λ t. literal (operand.Text t.0) t.1) (quoted_at quote s)

-- number
abbrev pub number_literal_at : Reader Term
number_literal_at s = option_map (with_value (λ n. term.Literal (operand.Int n))) (literal_at s)

abbrev pub nodes : Start → Read (List Segment) → Read Term
nodes start all = record { value = term.Nodes start all.value all.marks.single; marks = all.marks; rest = all.rest }

-- true / false / null
unfoldable pub keyword_of : List ℕ → List ℕ → Option (Read Term)
keyword_of word s =
    if bytes_eq word (codes "true") then Some (literal (operand.Flag true) s)
    else if bytes_eq word (codes "false") then Some (literal (operand.Flag false) s)
    else if bytes_eq word (codes "null") then Some (literal operand.Null s)
    else None

abbrev pub closed : {V : Type 0} → Read V → Option (Read V)
closed one = option_map (with_rest one) (after_byte 41 (skip_blanks one.rest))

-- the arguments of a function, behind its "("
unfoldable pub arguments_of : Reader Term → Reader (List Term)
arguments_of below s =
    chosen (after_byte 41 (skip_blanks s)) (λ t. Some (no_more t)) (option_and_then closed (items_at comma below (skip_blanks s)))

abbrev pub called : ℕ → List ℕ → Read (List Term) → Read Term
called left name args = record { value = (call_of name args.value).0; marks = ill_unless (call_of name args.value).1 left args.marks; rest = args.rest }

-- function-expr, or a literal of letters
unfoldable pub word_of : Reader Term → Reader Term
word_of below s =
    chosen (after_byte 40 (cut class.Function s).1) (λ t. option_map (called (length s) (cut class.Function s).0) (arguments_of below t))
    (keyword_of (cut class.Function s).0 (cut class.Function s).1)

-- literal / filter-query / function-expr
unfoldable pub term_of : Reader Term → Reader Term
term_of below [] = None
term_of below (x ∷ xs) =
    if x == 36 then option_map (nodes Root) (segments_of below xs)
    else if x == 64 then option_map (nodes Current) (segments_of below xs)
    else if x == 39 || x == 34 then text_literal_at x xs
    else if is_ascii_lowercase x then word_of below (x ∷ xs)
    else number_literal_at (x ∷ xs)

-- comparison-op
unfoldable pub comparison_at : List ℕ → Option (Comparison × List ℕ)
comparison_at [] = None
comparison_at (x ∷ xs) =
    if x == 61 then option_map (λ t. (Equal, t)) (after_byte 61 xs)
    else if x == 33 then option_map (λ t. (Unequal, t)) (after_byte 61 xs)
    else if x == 60 then chosen (after_byte 61 xs) (λ t. Some (LessOrEqual, t)) (Some (Less, xs))
    else if x == 62 then chosen (after_byte 61 xs) (λ t. Some (GreaterOrEqual, t)) (Some (Greater, xs))
    else None

abbrev pub compared : ℕ → Read Term → Comparison → ℕ → Read Term → Read Term
compared left one by other_left other = record {
  value = term.Logical (Compare (operand_of one.value) by (operand_of other.value));
  marks = joined (ill_unless (is_value one.value) left one.marks) (ill_unless (is_value other.value) other_left other.marks);
  rest = other.rest;
}

-- what follows comparison-op
abbrev pub other_of : Reader Term → ℕ → Read Term → Comparison × List ℕ → Option (Read Term)
other_of below left one c =
    option_map (compared left one c.0 (length (skip_blanks c.1))) (term_of below (skip_blanks c.1))

abbrev pub compared_with : Reader Term → ℕ → Read Term → Option (Read Term)
compared_with below left one = chosen (comparison_at (skip_blanks one.rest)) (other_of below left one) (Some one)

-- comparison-expr, or what may be an argument
unfoldable pub compared_of : Reader Term → Reader Term
compared_of below s = option_and_then (compared_with below (length s)) (term_of below s)

-- what follows "("
unfoldable pub group_of : Reader Term → Reader Test
group_of below s = option_and_then closed (tested below (skip_blanks s))

abbrev pub negated : Read Test → Read Term
negated = with_value (λ t. term.Logical (Not t))

-- as an expression
abbrev pub logical : Read Test → Read Term
logical = with_value term.Logical

-- what follows "!" S
unfoldable pub negated_of : Reader Term → Reader Term
negated_of below s =
    option_map negated (chosen (after_byte 40 s) (group_of below) (tested (term_of below) s))

-- basic-expr, or what may be an argument
unfoldable pub item_of : Reader Term → Reader Term
item_of below [] = None
item_of below (x ∷ xs) =
    if x == 33 then negated_of below (skip_blanks xs)
    else if x == 40 then option_map logical (group_of below xs)
    else compared_of below (x ∷ xs)

-- tests that are one
abbrev pub tests_as : (List Test → Test) → Read (List Test) → Read Term
tests_as make = with_value (λ ts. term.Logical (make ts))

abbrev pub chain_all : ℕ → (List Test → Test) → Reader Term → List ℕ → Read Test → Option (Read Term)
chain_all mark make item s first =
    option_map (λ more. tests_as make (with_front (first.value ∷ []) first.marks more))
    (more_at (length s) (after_pair mark) (tested item) first.rest)

abbrev pub chained : ℕ → (List Test → Test) → Reader Term → List ℕ → Read Term → Option (Read Term)
chained mark make item s one =
    chosen (after_pair mark one.rest) (λ t. option_and_then (chain_all mark make item s) (as_test (length s) one)) (Some one)

-- item *( S mark S item ); one alone stays what it is
abbrev pub chain_of : ℕ → (List Test → Test) → Reader Term → Reader Term
chain_of mark make item s = option_and_then (chained mark make item s) (item s)

-- logical-and-expr
unfoldable pub all_of : Reader Term → Reader Term
all_of below s = chain_of 38 All (item_of below) s

-- logical-or-expr
unfoldable pub any_of : Reader Term → Reader Term
any_of below s = chain_of 124 Any (all_of below) s

-- logical-expr, or function-argument, with at most so many expressions inside each other
unfoldable pub expr_at : ℕ → Reader Term
expr_at zero s = None
expr_at (suc n) s = any_of (expr_at n) s

-- ---- whole queries

abbrev pub whole : Read (List Segment) → Option (Read (List Segment))
whole all = if is_empty all.rest then Some all else None

-- jsonpath-query
unfoldable pub reading : Reader (List Segment)
reading s = option_and_then whole (option_and_then (segments_of (expr_at (length s))) (after_byte 36 s))
