-- The grammar of simple conditions (Arazzo 1.0.1, section 4.6.11). A fact says that the text s begins with what
-- the rule derives, that r follows it, and what it spells. Blanks may stand between tokens. Where `fractions`
-- is true, a literal may also be a number with a fraction or an exponent.
use Rattle.std.specs.Prelude.{◌≡◌, ℕ, suc, ◌==◌, ◌||◌, Bool, true, false, ℤ, List, [], ◌∷◌, codes, if◌then◌else◌, Some, None, IsUtf8}
use Rattle.std.specs.Char.{is_ascii_lowercase}
use Rattle.arz_query.specs.Grammar.{IsNumber}
use Rattle.arz_query.specs.Lexical.{is_next}
use Rattle.arz_query.specs.declared.pieces.Flaw.{Flaw}
use Rattle.arz_query.specs.declared.pieces.FlawKind.TheVariants.{Fraction}
use Rattle.arz_query.specs.declared.pieces.Marks.{Marks}
use Rattle.arz_expr.specs.Grammar.{Reads, is_pointer_byte}
use Rattle.arz_expr.specs.declared.syntax.Expr.{Expr}
use Rattle.arz_cond.specs.declared.term.Term.{Term}
use Rattle.arz_cond.specs.declared.term.Term.TheVariants.{Any, All, Not, Compare, Literal as LiteralOf, Value}
use Rattle.arz_cond.specs.declared.term.Literal.{Literal}
use Rattle.arz_cond.specs.declared.term.Literal.TheVariants.{Null, Flag, Int, Text}
use Rattle.arz_cond.specs.declared.term.Comparison.{Comparison}
use Rattle.arz_cond.specs.declared.term.Comparison.TheVariants as by

-- ---- tokens

-- the longest run of such bytes at the front, and what follows it
abbrev pub run : (ℕ → Bool) → List ℕ → List ℕ × List ℕ
run test [] = ([], [])
run test (b ∷ s) = if test b then (b ∷ (run test s).0, (run test s).1) else ([], b ∷ s)

-- space, tab, LF, CR
abbrev pub is_blank : ℕ → Bool
is_blank b = b == 32 || b == 9 || b == 10 || b == 13

-- what follows the blanks at the front
abbrev pub without_blanks : List ℕ → List ℕ
without_blanks s = (run is_blank s).1

-- an expression: all bytes that may belong to one, as a whole
pub record IsExpression (s r : List ℕ) (e : Expr) : Type 0 where
  pub text : List ℕ
  pub cut : run is_pointer_byte s ≡ (text, r)
  pub characters : IsUtf8 text
  pub reads : Reads text e

-- ---- literals

-- { character but ' | "''" } "'", and the text that it is
pub data AreCharacters : List ℕ → List ℕ → List ℕ → Type 0 where
  last_quote : {r : List ℕ} → is_next (λ b. b == 39) r ≡ false → AreCharacters (39 ∷ r) r []
  two_quotes : {s r t : List ℕ} → AreCharacters s r t → AreCharacters (39 ∷ 39 ∷ s) r (39 ∷ t)
  character : {b : ℕ} {s r t : List ℕ} → (b == 39) ≡ false → AreCharacters s r t → AreCharacters (b ∷ s) r (b ∷ t)

-- literal = "true" | "false" | "null" | number | "'" characters "'". A number has the grammar of RFC 8259, section 6,
-- which is that of RFC 9535, section 2.3.5.1: without flaw it is an integer of -2^63 to 2^64 - 1. What one with a
-- fraction or an exponent spells is never asked.
pub data IsLiteral (fractions : Bool) : List ℕ → List ℕ → Literal → Type 0 where
  true_word : {s r : List ℕ} → run is_ascii_lowercase s ≡ (codes "true", r) → IsLiteral fractions s r (Flag true)
  false_word : {s r : List ℕ} → run is_ascii_lowercase s ≡ (codes "false", r) → IsLiteral fractions s r (Flag false)
  null_word : {s r : List ℕ} → run is_ascii_lowercase s ≡ (codes "null", r) → IsLiteral fractions s r Null
  integer : {s r : List ℕ} {z : ℤ} {m : Marks} → IsNumber s r z m → m.flaw ≡ None → IsLiteral fractions s r (Int z)
  fraction : {s r : List ℕ} {z : ℤ} {m : Marks} {f : Flaw} → fractions ≡ true → IsNumber s r z m → m.flaw ≡ Some f → f.kind ≡ Fraction → IsLiteral fractions s r Null
  quoted : {s r t : List ℕ} → AreCharacters s r t → IsUtf8 t → IsLiteral fractions (39 ∷ s) r (Text t)

-- ---- conditions

-- "==" | "!=" | "<=" | "<" | ">=" | ">"
pub data IsOperator : List ℕ → List ℕ → Comparison → Type 0 where
  equal : {r : List ℕ} → IsOperator (61 ∷ 61 ∷ r) r by.Equal
  unequal : {r : List ℕ} → IsOperator (33 ∷ 61 ∷ r) r by.Unequal
  less_or_equal : {r : List ℕ} → IsOperator (60 ∷ 61 ∷ r) r by.LessOrEqual
  greater_or_equal : {r : List ℕ} → IsOperator (62 ∷ 61 ∷ r) r by.GreaterOrEqual
  less : {r : List ℕ} → is_next (λ b. b == 61) r ≡ false → IsOperator (60 ∷ r) r by.Less
  greater : {r : List ℕ} → is_next (λ b. b == 61) r ≡ false → IsOperator (62 ∷ r) r by.Greater

-- one term alone stays what it is; several are made one
abbrev pub one_or : (List Term → Term) → List Term → Term
one_or make [] = make []
one_or make (x ∷ []) = x
one_or make (x ∷ y ∷ more) = make (x ∷ y ∷ more)

mutual
  -- or = and { "||" and }, where so many parentheses and "!" may still be opened
  pub data IsOr (fractions : Bool) : ℕ → List ℕ → List ℕ → Term → Type 0 where
    or : {n : ℕ} {s r : List ℕ} {xs : List Term} → AreAnds fractions n s r xs → IsOr fractions n s r (one_or Any xs)

  -- and { "||" and }
  pub data AreAnds (fractions : Bool) : ℕ → List ℕ → List ℕ → List Term → Type 0 where
    last_and : {n : ℕ} {s r : List ℕ} {x : Term} → IsAnd fractions n s r x → AreAnds fractions n s r (x ∷ [])
    more_ands : {n : ℕ} {s t u r : List ℕ} {x : Term} {xs : List Term} →
        IsAnd fractions n s t x → without_blanks t ≡ 124 ∷ 124 ∷ u → AreAnds fractions n (without_blanks u) r xs → AreAnds fractions n s r (x ∷ xs)

  -- and = cmp { "&&" cmp }
  pub data IsAnd (fractions : Bool) : ℕ → List ℕ → List ℕ → Term → Type 0 where
    and : {n : ℕ} {s r : List ℕ} {xs : List Term} → AreComparisons fractions n s r xs → IsAnd fractions n s r (one_or All xs)

  -- cmp { "&&" cmp }
  pub data AreComparisons (fractions : Bool) : ℕ → List ℕ → List ℕ → List Term → Type 0 where
    last_comparison : {n : ℕ} {s r : List ℕ} {x : Term} → IsComparison fractions n s r x → AreComparisons fractions n s r (x ∷ [])
    more_comparisons : {n : ℕ} {s t u r : List ℕ} {x : Term} {xs : List Term} →
        IsComparison fractions n s t x → without_blanks t ≡ 38 ∷ 38 ∷ u → AreComparisons fractions n (without_blanks u) r xs → AreComparisons fractions n s r (x ∷ xs)

  -- cmp = not [ ( "<=" | "<" | ">=" | ">" | "==" | "!=" ) not ]
  pub data IsComparison (fractions : Bool) : ℕ → List ℕ → List ℕ → Term → Type 0 where
    alone : {n : ℕ} {s r : List ℕ} {x : Term} → IsNot fractions n s r x → IsComparison fractions n s r x
    compared : {n : ℕ} {s t u r : List ℕ} {x y : Term} {b : Comparison} →
        IsNot fractions n s t x → IsOperator (without_blanks t) u b → IsNot fractions n (without_blanks u) r y → IsComparison fractions n s r (Compare x b y)

  -- not = "!" not | "(" or ")" | literal | expression
  pub data IsNot (fractions : Bool) : ℕ → List ℕ → List ℕ → Term → Type 0 where
    negated : {n : ℕ} {s r : List ℕ} {x : Term} → IsNot fractions n (without_blanks s) r x → IsNot fractions (suc n) (33 ∷ s) r (Not x)
    parentheses : {n : ℕ} {s t r : List ℕ} {x : Term} → IsOr fractions n (without_blanks s) t x → without_blanks t ≡ 41 ∷ r → IsNot fractions (suc n) (40 ∷ s) r x
    literal : {n : ℕ} {s r : List ℕ} {l : Literal} → IsLiteral fractions s r l → IsNot fractions n s r (LiteralOf l)
    expression : {n : ℕ} {s r : List ℕ} {e : Expr} → IsExpression s r e → IsNot fractions n s r (Value e)

-- a whole text. Parentheses and "!" nest at most 64 deep.
abbrev pub IsCondition : Bool → List ℕ → Term → Type 0
IsCondition fractions s t = IsOr fractions 64 s [] t
