-- What an expression may stand for (RFC 9535, section 2.4.3). A value that is flawed is read as anything.
use Rattle.std.specs.Prelude.{ℕ, ◌&&◌, Bool, true, false, List, [], ◌∷◌, codes, if◌then◌else◌, Option, Some, None, option_map}
use Rattle.std.specs.Str.{bytes_eq}
use Rattle.arz_query.specs.Words.{Read, chosen, first_flaw}
use Rattle.arz_query.specs.declared.pieces.Marks.{Marks}
use Rattle.arz_query.specs.declared.pieces.FlawKind.TheVariants.{IllTyped}
use Rattle.arz_query.specs.declared.query.Operand.{Operand}
use Rattle.arz_query.specs.declared.query.Operand.TheVariants as operand
use Rattle.arz_query.specs.declared.query.Test.{Test}
use Rattle.arz_query.specs.declared.query.Test.TheVariants.{Any, Exists, Match, Search}
use Rattle.arz_query.specs.declared.query.Start.{Start}
use Rattle.arz_query.specs.declared.query.Segment.{Segment}
use Rattle.arz_query.specs.declared.terms.Term.{Term}
use Rattle.arz_query.specs.declared.terms.Term.TheVariants as term

-- a flaw there, unless that holds
abbrev pub ill_unless : Bool → ℕ → Marks → Marks
ill_unless fits left m = record { flaw = first_flaw (if fits then None else Some (record { kind = IllTyped; left = left })) m.flaw; single = m.single }

-- as what is compared, and as an argument of ValueType
abbrev pub operand_of : Term → Operand
operand_of (term.Literal o) = o
operand_of (term.Value o) = o
operand_of (term.Nodes start segments single) = operand.Query start segments
operand_of (term.Logical t) = operand.Null

-- a literal, a singular query, or a function with a value
abbrev pub is_value : Term → Bool
is_value (term.Literal o) = true
is_value (term.Value o) = true
is_value (term.Nodes start segments single) = single
is_value (term.Logical t) = false

-- as a test; a literal is none
abbrev pub test_of : Term → Option Test
test_of (term.Literal o) = None
test_of (term.Value o) = Some (Any [])
test_of (term.Nodes start segments single) = Some (Exists start segments)
test_of (term.Logical t) = Some t

-- a function with a value isn't
abbrev pub is_test : Term → Bool
is_test (term.Literal o) = true
is_test (term.Value o) = false
is_test (term.Nodes start segments single) = true
is_test (term.Logical t) = true

abbrev pub tested_as : ℕ → Read Term → Test → Read Test
tested_as left one t = record { value = t; marks = ill_unless (is_test one.value) left one.marks; rest = one.rest }

-- what was read where so many bytes were left, as a test
abbrev pub as_test : ℕ → Read Term → Option (Read Test)
as_test left one = option_map (tested_as left one) (test_of one.value)

-- ---- functions: what a call is read as, and whether its arguments fit

abbrev pub Call : Type 0
Call = Term × Bool

abbrev pub only_of : List Term → Option Term
only_of [] = None
only_of (a ∷ []) = Some a
only_of (a ∷ b ∷ more) = None

abbrev pub pair_of : List Term → Option (Term × Term)
pair_of [] = None
pair_of (a ∷ []) = None
pair_of (a ∷ b ∷ []) = Some (a, b)
pair_of (a ∷ b ∷ c ∷ more) = None

abbrev pub no_value : Call
no_value = (term.Value operand.Null, false)

abbrev pub no_test : Call
no_test = (term.Logical (Any []), false)

abbrev pub length_of : Term → Call
length_of a = (term.Value (operand.Length (operand_of a)), is_value a)

-- the query, where it is one
abbrev pub nodes_of : Term → Option (Start × List Segment)
nodes_of (term.Nodes start segments single) = Some (start, segments)
nodes_of (term.Literal o) = None
nodes_of (term.Value o) = None
nodes_of (term.Logical t) = None

abbrev pub count_of : Term → Call
count_of a = chosen (nodes_of a) (λ q. (term.Value (operand.Count q.0 q.1), true)) no_value

abbrev pub value_of : Term → Call
value_of a = chosen (nodes_of a) (λ q. (term.Value (operand.Value q.0 q.1), true)) no_value

abbrev pub match_of : Term × Term → Call
match_of p = (term.Logical (Match (operand_of p.0) (operand_of p.1)), is_value p.0 && is_value p.1)

abbrev pub search_of : Term × Term → Call
search_of p = (term.Logical (Search (operand_of p.0) (operand_of p.1)), is_value p.0 && is_value p.1)

-- the functions of sections 2.4.4 to 2.4.8, and no other
unfoldable pub call_of : List ℕ → List Term → Call
call_of name args =
    if bytes_eq name (codes "length") then chosen (only_of args) length_of no_value
    else if bytes_eq name (codes "count") then chosen (only_of args) count_of no_value
    else if bytes_eq name (codes "value") then chosen (only_of args) value_of no_value
    else if bytes_eq name (codes "match") then chosen (pair_of args) match_of no_test
    else if bytes_eq name (codes "search") then chosen (pair_of args) search_of no_test
    else no_test
