-- The grammar of queries (RFC 9535, appendix A). A fact says that the text s begins with what the rule
-- derives, that r follows it, and what it spells. The marks tell the first flaw, with its place as the
-- number of bytes that are left where it begins, and whether a query is singular.
use Rattle.std.specs.Prelude.{◌≡◌, ℕ, ◌+◌, ◌-◌, ◌*◌, ◌==◌, ◌||◌, nat_le, nat_lt, ◌&&◌, not, Bool, true, false, ℤ, pos, List, [], ◌∷◌, ◌++◌, length, codes, Option, Some, None, encode_utf8, IsUtf8}
use Rattle.std.specs.List.{list_all}
use Rattle.std.specs.Char.{is_ascii_lowercase, is_ascii_digit}
use Rattle.arz_query.specs.Words.{fine, flawed, joined, plural}
use Rattle.arz_query.specs.Lexical.{is_of, is_next, hex_digit, is_scalar, escaped, joined as joined_code}
use Rattle.arz_query.specs.Numbers.{are_digits, signed, index_limit, literal_limit, begins_fraction}
use Rattle.arz_query.specs.declared.pieces.FlawKind.TheVariants.{Fraction, IntegerRange}
use Rattle.arz_query.specs.Typing.{operand_of, is_value, is_test, test_of, ill_unless, call_of}
use Rattle.arz_query.specs.Reading.{is_one}
use Rattle.arz_query.specs.declared.words.Class.TheVariants as class
use Rattle.arz_query.specs.declared.pieces.Marks.{Marks}
use Rattle.arz_query.specs.declared.terms.Term.{Term}
use Rattle.arz_query.specs.declared.terms.Term.TheVariants as term
use Rattle.arz_query.specs.declared.query.Segment.{Segment}
use Rattle.arz_query.specs.declared.query.Segment.TheVariants.{Child, Descendant}
use Rattle.arz_query.specs.declared.query.Selector.{Selector}
use Rattle.arz_query.specs.declared.query.Selector.TheVariants as selector
use Rattle.arz_query.specs.declared.query.Test.{Test}
use Rattle.arz_query.specs.declared.query.Test.TheVariants.{Any, All, Not, Compare}
use Rattle.arz_query.specs.declared.query.Operand.TheVariants as operand
use Rattle.arz_query.specs.declared.query.Start.TheVariants.{Root, Current}
use Rattle.arz_query.specs.declared.query.Comparison.{Comparison}
use Rattle.arz_query.specs.declared.query.Comparison.TheVariants as by

-- S = *B
pub data IsBlank : List ℕ → List ℕ → Type 0 where
  nothing : {s : List ℕ} → IsBlank s s
  blank : {b : ℕ} {s r : List ℕ} → is_of class.Blank b ≡ true → IsBlank s r → IsBlank (b ∷ s) r

abbrev pub is_blank : List ℕ → Bool
is_blank s = is_next (is_of class.Blank) s

-- ---- words. A word holds all the bytes that may belong to it, since none of them may follow it.

-- name-first = ALPHA / "_" / a character past ASCII
abbrev pub is_name_first : ℕ → Bool
is_name_first b = is_of class.Name b && not (is_ascii_digit b)

-- member-name-shorthand = name-first *name-char (2.5.1.1)
pub record IsName (s r name : List ℕ) : Type 0 where
  pub split : s ≡ name ++ r
  pub first : is_next is_name_first name ≡ true
  pub chars : list_all (is_of class.Name) name ≡ true
  pub longest : is_next (is_of class.Name) r ≡ false
  pub characters : IsUtf8 name

-- function-name = LCALPHA *( LCALPHA / "_" / DIGIT ) (2.4), and a literal of letters
pub record IsWord (s r word : List ℕ) : Type 0 where
  pub split : s ≡ word ++ r
  pub first : is_next is_ascii_lowercase word ≡ true
  pub chars : list_all (is_of class.Function) word ≡ true
  pub longest : is_next (is_of class.Function) r ≡ false

-- 4HEXDIG
pub data IsHex : List ℕ → List ℕ → ℕ → Type 0 where
  hex : {a b c d x y z w : ℕ} {r : List ℕ} → hex_digit a ≡ Some x → hex_digit b ≡ Some y → hex_digit c ≡ Some z → hex_digit d ≡ Some w →
      IsHex (a ∷ b ∷ c ∷ d ∷ r) r ((x * 16 + y) * 256 + (z * 16 + w))

-- high-surrogate: D800 to DBFF; low-surrogate: DC00 to DFFF
abbrev pub is_high : ℕ → Bool
is_high c = nat_le 55296 c && nat_le c 56319

abbrev pub is_low : ℕ → Bool
is_low c = nat_le 56320 c && nat_le c 57343

-- what follows ESC: the quote q, or escapable (2.3.1.1)
pub data IsEscape (q : ℕ) : List ℕ → List ℕ → ℕ → Type 0 where
  the_quote : {r : List ℕ} → IsEscape q (q ∷ r) r q
  letter : {b c : ℕ} {r : List ℕ} → escaped b ≡ Some c → IsEscape q (b ∷ r) r c
  unit : {s r : List ℕ} {c : ℕ} → IsHex s r c → is_scalar c ≡ true → IsEscape q (117 ∷ s) r c
  pair : {s t r : List ℕ} {h l : ℕ} → IsHex s (92 ∷ 117 ∷ t) h → is_high h ≡ true → IsHex t r l → is_low l ≡ true → IsEscape q (117 ∷ s) r (joined_code h l)

-- unescaped: every byte of a character from U+0020 on but the quote q and ESC
abbrev pub is_unescaped : ℕ → ℕ → Bool
is_unescaped q b = not (b == q) && not (b == 92) && not (nat_lt b 32)

-- *double-quoted %x22, or *single-quoted %x27, and the bytes that they are
pub data AreChars (q : ℕ) : List ℕ → List ℕ → List ℕ → Type 0 where
  end_quote : {r : List ℕ} → AreChars q (q ∷ r) r []
  unescaped : {b : ℕ} {s r t : List ℕ} → is_unescaped q b ≡ true → AreChars q s r t → AreChars q (b ∷ s) r (b ∷ t)
  escape : {s u r t : List ℕ} {c : ℕ} → IsEscape q s u c → AreChars q u r t → AreChars q (92 ∷ s) r (encode_utf8 c ++ t)

-- string-literal, behind the quote q (2.3.1.1)
pub record IsString (q : ℕ) (s r text : List ℕ) : Type 0 where
  pub chars : AreChars q s r text
  pub characters : IsUtf8 text

-- ---- numbers

-- 1*DIGIT, all of them
pub record AreDigits (s r digits : List ℕ) : Type 0 where
  pub split : s ≡ digits ++ r
  pub some : is_next (is_of class.Digit) digits ≡ true
  pub chars : list_all (is_of class.Digit) digits ≡ true
  pub longest : is_next (is_of class.Digit) r ≡ false

-- the number that digits spell behind others
abbrev pub value_from : ℕ → List ℕ → ℕ
value_from value [] = value
value_from value (d ∷ ds) = value_from (value * 10 + (d - 48)) ds

-- int = "0" / (["-"] DIGIT1 *DIGIT) (2.3.3.1), or int / "-0" where minus_zero is true: whether it has a
-- minus, and its digits
pub data IsWhole (minus_zero : Bool) : List ℕ → List ℕ → Bool → List ℕ → Type 0 where
  plain : {s r ds : List ℕ} → AreDigits s r ds → are_digits true ds ≡ true → IsWhole minus_zero s r false ds
  minus : {s r ds : List ℕ} → AreDigits s r ds → are_digits minus_zero ds ≡ true → IsWhole minus_zero (45 ∷ s) r true ds

-- int, at most 2^53 - 1 either way, else IntegerRange there
pub data IsInt : List ℕ → List ℕ → ℤ → Marks → Type 0 where
  in_range : {s r ds : List ℕ} {n : Bool} → IsWhole false s r n ds → nat_le (value_from 0 ds) index_limit ≡ true → IsInt s r (signed n (value_from 0 ds)) fine
  past_range : {s r ds : List ℕ} {n : Bool} → IsWhole false s r n ds → nat_le (value_from 0 ds) index_limit ≡ false → IsInt s r (pos 0) (flawed IntegerRange (length s))

-- [ "+" / "-" ]
pub data IsSign : List ℕ → List ℕ → Type 0 where
  plus_sign : {r : List ℕ} → IsSign (43 ∷ r) r
  minus_sign : {r : List ℕ} → IsSign (45 ∷ r) r
  no_sign : {r : List ℕ} → IsSign r r

-- exp = "e" [ "-" / "+" ] 1*DIGIT (2.3.5.1), where "e" is of either case
pub data IsExponent : List ℕ → List ℕ → Type 0 where
  small_e : {s t r ds : List ℕ} → IsSign s t → AreDigits t r ds → IsExponent (101 ∷ s) r
  large_e : {s t r ds : List ℕ} → IsSign s t → AreDigits t r ds → IsExponent (69 ∷ s) r

-- [ frac ] [ exp ], one of them at least, where frac = "." 1*DIGIT
pub data IsFraction : List ℕ → List ℕ → Type 0 where
  frac : {s r ds : List ℕ} → AreDigits s r ds → is_next (λ b. b == 101 || b == 69) r ≡ false → IsFraction (46 ∷ s) r
  frac_exp : {s t r ds : List ℕ} → AreDigits s t ds → IsExponent t r → IsFraction (46 ∷ s) r
  exp : {s r : List ℕ} → IsExponent s r → IsFraction s r

-- number = (int / "-0") [ frac ] [ exp ] (2.3.5.1), of -2^63 to 2^64 - 1 and without fraction and exponent,
-- else Fraction or IntegerRange there
pub data IsNumber : List ℕ → List ℕ → ℤ → Marks → Type 0 where
  whole_number : {s r ds : List ℕ} {n : Bool} → IsWhole true s r n ds → is_next begins_fraction r ≡ false → nat_le (value_from 0 ds) (literal_limit n) ≡ true → IsNumber s r (signed n (value_from 0 ds)) fine
  past_number : {s r ds : List ℕ} {n : Bool} → IsWhole true s r n ds → is_next begins_fraction r ≡ false → nat_le (value_from 0 ds) (literal_limit n) ≡ false → IsNumber s r (pos 0) (flawed IntegerRange (length s))
  fraction : {s t r ds : List ℕ} {n : Bool} → IsWhole true s t n ds → IsFraction t r → IsNumber s r (pos 0) (flawed Fraction (length s))

-- ---- selectors without expressions

-- [ int S ], as start and end of a slice (2.3.4.1)
pub data IsOptional : List ℕ → List ℕ → Option ℤ → Marks → Type 0 where
  no_int : {s : List ℕ} → IsOptional s s None fine
  int : {s t r : List ℕ} {z : ℤ} {m : Marks} → IsInt s t z m → IsBlank t r → IsOptional s r (Some z) m

-- [ ":" [ S step ] ]. The blanks that could stand in a slice or behind it stand in it.
pub data IsStep : List ℕ → List ℕ → ℤ → Marks → Type 0 where
  no_step : {r : List ℕ} → is_blank r ≡ false → IsStep r r (pos 1) fine
  empty_step : {r : List ℕ} → IsStep (58 ∷ r) r (pos 1) fine
  step : {s t r : List ℕ} {z : ℤ} {m : Marks} → IsBlank s t → IsInt t r z m → IsStep (58 ∷ s) r z m

-- comparison-op (2.3.5.1)
pub data IsOperator : List ℕ → List ℕ → Comparison → Type 0 where
  equal : {r : List ℕ} → IsOperator (61 ∷ 61 ∷ r) r by.Equal
  unequal : {r : List ℕ} → IsOperator (33 ∷ 61 ∷ r) r by.Unequal
  less_or_equal : {r : List ℕ} → IsOperator (60 ∷ 61 ∷ r) r by.LessOrEqual
  greater_or_equal : {r : List ℕ} → IsOperator (62 ∷ 61 ∷ r) r by.GreaterOrEqual
  less : {r : List ℕ} → IsOperator (60 ∷ r) r by.Less
  greater : {r : List ℕ} → IsOperator (62 ∷ r) r by.Greater

-- wildcard-selector / member-name-shorthand (2.5.1.1), as the selectors of a segment
pub data IsShorthand : List ℕ → List ℕ → List Selector → Marks → Type 0 where
  wildcard : {r : List ℕ} → IsShorthand (42 ∷ r) r (selector.Wildcard ∷ []) (plural fine)
  shorthand : {s r name : List ℕ} → IsName s r name → IsShorthand s r (selector.Name name ∷ []) fine

-- whether a selection may stand in a singular query (2.3.5.1): one name or index, and no blank
abbrev pub is_single : List ℕ → List Selector → Bool → List ℕ → Bool
is_single s vs single u = single && is_one vs && not (is_blank s) && not (is_blank u)

-- two or more
abbrev pub are_several : List Test → Bool
are_several [] = false
are_several (x ∷ []) = false
are_several (x ∷ y ∷ more) = true

mutual
  -- segments = *(S segment) (2.1.1)
  pub data AreSegments : List ℕ → List ℕ → List Segment → Marks → Type 0 where
    no_segment : {s : List ℕ} → AreSegments s s [] fine
    segment : {s t u r : List ℕ} {v : Segment} {vs : List Segment} {m n : Marks} →
        IsBlank s t → IsSegment t u v m → AreSegments u r vs n → AreSegments s r (v ∷ vs) (joined m n)

  -- segment = child-segment / descendant-segment (2.5)
  pub data IsSegment : List ℕ → List ℕ → Segment → Marks → Type 0 where
    child : {s r : List ℕ} {vs : List Selector} {m : Marks} → IsSelection s r vs m → IsSegment (91 ∷ s) r (Child vs) m
    short_child : {s r : List ℕ} {vs : List Selector} {m : Marks} → IsShorthand s r vs m → IsSegment (46 ∷ s) r (Child vs) m
    descendant : {s r : List ℕ} {vs : List Selector} {m : Marks} → IsSelection s r vs m → IsSegment (46 ∷ 46 ∷ 91 ∷ s) r (Descendant vs) (plural m)
    short_descendant : {s r : List ℕ} {vs : List Selector} {m : Marks} → IsShorthand s r vs m → IsSegment (46 ∷ 46 ∷ s) r (Descendant vs) (plural m)

  -- bracketed-selection = "[" S selector *(S "," S selector) S "]" (2.5.1.1), behind its "["
  pub data IsSelection : List ℕ → List ℕ → List Selector → Marks → Type 0 where
    selection : {s t u r : List ℕ} {vs : List Selector} {m : Marks} →
        IsBlank s t → AreSelectors t u vs m → IsBlank u (93 ∷ r) → IsSelection s r vs (record { flaw = m.flaw; single = is_single s vs m.single u })

  -- selector *(S "," S selector)
  pub data AreSelectors : List ℕ → List ℕ → List Selector → Marks → Type 0 where
    last_selector : {s r : List ℕ} {v : Selector} {m : Marks} → IsSelector s r v m → AreSelectors s r (v ∷ []) m
    more_selectors : {s t u w r : List ℕ} {v : Selector} {vs : List Selector} {m n : Marks} →
        IsSelector s t v m → IsBlank t (44 ∷ u) → IsBlank u w → AreSelectors w r vs n → AreSelectors s r (v ∷ vs) (joined m n)

  -- selector = name-selector / wildcard-selector / slice-selector / index-selector / filter-selector (2.3)
  pub data IsSelector : List ℕ → List ℕ → Selector → Marks → Type 0 where
    single_quoted : {s r name : List ℕ} → IsString 39 s r name → IsSelector (39 ∷ s) r (selector.Name name) fine
    double_quoted : {s r name : List ℕ} → IsString 34 s r name → IsSelector (34 ∷ s) r (selector.Name name) fine
    every : {r : List ℕ} → IsSelector (42 ∷ r) r selector.Wildcard (plural fine)
    index : {s r : List ℕ} {z : ℤ} {m : Marks} → IsInt s r z m → IsSelector s r (selector.Index z) m
    slice : {s t u w r : List ℕ} {x y : Option ℤ} {z : ℤ} {m n o : Marks} →
        IsOptional s (58 ∷ t) x m → IsBlank t u → IsOptional u w y n → IsStep w r z o →
        IsSelector s r (selector.Slice (record { start = x; end = y; step = z })) (plural (joined (joined m n) o))
    filter : {s t r : List ℕ} {v : Term} {x : Test} {m : Marks} →
        IsBlank s t → IsExpr t r v m → test_of v ≡ Some x → IsSelector (63 ∷ s) r (selector.Filter x) (plural (ill_unless (is_test v) (length t) m))

  -- logical-expr = logical-or-expr (2.3.5.1). One logical-and-expr alone stays what it is, so that it may
  -- be a function's argument; several are tests.
  pub data IsExpr : List ℕ → List ℕ → Term → Marks → Type 0 where
    one_all : {s r : List ℕ} {v : Term} {m : Marks} → IsAll s r v m → IsExpr s r v m
    any : {s r : List ℕ} {xs : List Test} {m : Marks} → AreAlls s r xs m → are_several xs ≡ true → IsExpr s r (term.Logical (Any xs)) m

  -- logical-and-expr *(S "||" S logical-and-expr), as tests
  pub data AreAlls : List ℕ → List ℕ → List Test → Marks → Type 0 where
    last_all : {s r : List ℕ} {v : Term} {x : Test} {m : Marks} → IsAll s r v m → test_of v ≡ Some x → AreAlls s r (x ∷ []) (ill_unless (is_test v) (length s) m)
    more_alls : {s t u w r : List ℕ} {v : Term} {x : Test} {xs : List Test} {m n : Marks} →
        IsAll s t v m → test_of v ≡ Some x → IsBlank t (124 ∷ 124 ∷ u) → IsBlank u w → AreAlls w r xs n →
        AreAlls s r (x ∷ xs) (joined (ill_unless (is_test v) (length s) m) n)

  -- logical-and-expr = basic-expr *(S "&&" S basic-expr)
  pub data IsAll : List ℕ → List ℕ → Term → Marks → Type 0 where
    one_item : {s r : List ℕ} {v : Term} {m : Marks} → IsItem s r v m → IsAll s r v m
    all : {s r : List ℕ} {xs : List Test} {m : Marks} → AreItems s r xs m → are_several xs ≡ true → IsAll s r (term.Logical (All xs)) m

  -- basic-expr *(S "&&" S basic-expr), as tests
  pub data AreItems : List ℕ → List ℕ → List Test → Marks → Type 0 where
    last_item : {s r : List ℕ} {v : Term} {x : Test} {m : Marks} → IsItem s r v m → test_of v ≡ Some x → AreItems s r (x ∷ []) (ill_unless (is_test v) (length s) m)
    more_items : {s t u w r : List ℕ} {v : Term} {x : Test} {xs : List Test} {m n : Marks} →
        IsItem s t v m → test_of v ≡ Some x → IsBlank t (38 ∷ 38 ∷ u) → IsBlank u w → AreItems w r xs n →
        AreItems s r (x ∷ xs) (joined (ill_unless (is_test v) (length s) m) n)

  -- basic-expr = paren-expr / comparison-expr / test-expr, or a literal alone (2.3.5.1)
  pub data IsItem : List ℕ → List ℕ → Term → Marks → Type 0 where
    alone : {s r : List ℕ} {v : Term} {m : Marks} → IsTerm s r v m → IsItem s r v m
    comparison : {s t u w a r : List ℕ} {v o : Term} {b : Comparison} {m n : Marks} →
        IsTerm s t v m → IsBlank t u → IsOperator u w b → IsBlank w a → IsTerm a r o n →
        IsItem s r (term.Logical (Compare (operand_of v) b (operand_of o))) (joined (ill_unless (is_value v) (length s) m) (ill_unless (is_value o) (length a) n))
    group : {s r : List ℕ} {x : Test} {m : Marks} → IsGroup s r x m → IsItem (40 ∷ s) r (term.Logical x) m
    not_group : {s t r : List ℕ} {x : Test} {m : Marks} → IsBlank s (40 ∷ t) → IsGroup t r x m → IsItem (33 ∷ s) r (term.Logical (Not x)) m
    not_alone : {s t r : List ℕ} {v : Term} {x : Test} {m : Marks} →
        IsBlank s t → IsTerm t r v m → test_of v ≡ Some x → IsItem (33 ∷ s) r (term.Logical (Not x)) (ill_unless (is_test v) (length t) m)

  -- "(" S logical-expr S ")", behind its "("
  pub data IsGroup : List ℕ → List ℕ → Test → Marks → Type 0 where
    parentheses : {s t u r : List ℕ} {v : Term} {x : Test} {m : Marks} →
        IsBlank s t → IsExpr t u v m → test_of v ≡ Some x → IsBlank u (41 ∷ r) → IsGroup s r x (ill_unless (is_test v) (length t) m)

  -- literal / filter-query / function-expr (2.3.5.1 and 2.4)
  pub data IsTerm : List ℕ → List ℕ → Term → Marks → Type 0 where
    from_root : {s r : List ℕ} {vs : List Segment} {m : Marks} → AreSegments s r vs m → IsTerm (36 ∷ s) r (term.Nodes Root vs m.single) m
    from_current : {s r : List ℕ} {vs : List Segment} {m : Marks} → AreSegments s r vs m → IsTerm (64 ∷ s) r (term.Nodes Current vs m.single) m
    single_text : {s r text : List ℕ} → IsString 39 s r text → IsTerm (39 ∷ s) r (term.Literal (operand.Text text)) fine
    double_text : {s r text : List ℕ} → IsString 34 s r text → IsTerm (34 ∷ s) r (term.Literal (operand.Text text)) fine
    number : {s r : List ℕ} {z : ℤ} {m : Marks} → IsNumber s r z m → IsTerm s r (term.Literal (operand.Int z)) m
    true_word : {s r : List ℕ} → IsWord s r (codes "true") → IsTerm s r (term.Literal (operand.Flag true)) fine
    false_word : {s r : List ℕ} → IsWord s r (codes "false") → IsTerm s r (term.Literal (operand.Flag false)) fine
    null_word : {s r : List ℕ} → IsWord s r (codes "null") → IsTerm s r (term.Literal operand.Null) fine
    function : {s t r name : List ℕ} {vs : List Term} {m : Marks} →
        IsWord s (40 ∷ t) name → AreArguments t r vs m → IsTerm s r (call_of name vs).0 (ill_unless (call_of name vs).1 (length s) m)

  -- function-expr = function-name "(" S [ function-argument *(S "," S function-argument) ] S ")", behind its "("
  pub data AreArguments : List ℕ → List ℕ → List Term → Marks → Type 0 where
    no_argument : {s r : List ℕ} → IsBlank s (41 ∷ r) → AreArguments s r [] fine
    arguments : {s t u r : List ℕ} {vs : List Term} {m : Marks} → IsBlank s t → AreExprs t u vs m → IsBlank u (41 ∷ r) → AreArguments s r vs m

  -- function-argument *(S "," S function-argument)
  pub data AreExprs : List ℕ → List ℕ → List Term → Marks → Type 0 where
    last_expr : {s r : List ℕ} {v : Term} {m : Marks} → IsExpr s r v m → AreExprs s r (v ∷ []) m
    more_exprs : {s t u w r : List ℕ} {v : Term} {vs : List Term} {m n : Marks} →
        IsExpr s t v m → IsBlank t (44 ∷ u) → IsBlank u w → AreExprs w r vs n → AreExprs s r (v ∷ vs) (joined m n)

-- jsonpath-query = root-identifier segments (2.1.1), as a whole text
pub data IsQuery : List ℕ → List Segment → Marks → Type 0 where
  query : {s : List ℕ} {vs : List Segment} {m : Marks} → AreSegments s [] vs m → IsQuery (36 ∷ s) vs m
