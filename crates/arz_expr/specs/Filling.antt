-- What a template gives (Arazzo 1.0.1, 4.7): a tree of JSON in which a text may be an expression, or hold
-- expressions in braces. `found` gives what each base names.
use Rattle.std.specs.Prelude.{ℕ, ◌+◌, ◌==◌, nat_lt, zero, suc, Bool, List, [], ◌∷◌, ◌++◌, map, length, codes, if◌then◌else◌, Option, Some, None, option_map, option_and_then, ok_or, Result, Ok, Err}
use Rattle.std.specs.List.{concat}
use Rattle.std.specs.Fmt.{signed_decimal}
use Rattle.serde_json.specs.Written.{compact_text}
use Rattle.arz_json.specs.Answer.{◌>>=◌}
use Rattle.arz_json.specs.Tree.{depth, has_opaque, member_step}
use Rattle.arz_json.specs.Writing.{data_of}
use Rattle.arz_json.specs.declared.tree.Json.{Json, out-Json}
use Rattle.arz_json.specs.declared.tree.Json.TheOpen.{Json-F}
use Rattle.arz_json.specs.declared.tree.Json.TheFolds.{fold-Json}
use Rattle.arz_json.specs.declared.tree.Json.TheVariants.{Null, Flag, Int, Text, List as ListOf, Object, Opaque}
use Rattle.arz_json.specs.declared.tree.Member.{Member}
use Rattle.arz_expr.specs.Grammar.{printed}
use Rattle.arz_expr.specs.Reading.{chosen, reading}
use Rattle.arz_expr.specs.Values.{value_in}
use Rattle.arz_expr.specs.declared.syntax.Base.{Base}
use Rattle.arz_expr.specs.declared.syntax.Expr.{Expr}

-- why a template gives no tree: an expression names nothing; an embedded value holds a number whose
-- spelling isn't kept; the tree nests too deep
pub data Fault : Type 0 where
  Unresolved : Fault
  FractionUsed : Fault
  TooNested : Fault

-- what f makes of the value, or the fault
abbrev pub mapped : {A B : Type 0} → (A → B) → Result A Fault → Result B Fault
mapped f (Ok a) = Ok (f a)
mapped f (Err e) = Err e

-- all of them, or the first fault
abbrev pub all_of : {A : Type 0} → List (Result A Fault) → Result (List A) Fault
all_of [] = Ok []
all_of (r ∷ rs) = r >>= λ a. mapped (λ others. a ∷ others) (all_of rs)

-- the value that an expression stands for
abbrev pub resolved : (Base → Option Json) → Expr → Result Json Fault
resolved found e = ok_or (value_in found e) Unresolved

-- ---- expressions inside a text

-- an embedded expression, or a byte that stands for itself
pub data Piece : Type 0 where
  Embedded : Expr → Piece
  Byte : ℕ → Piece

-- what stands before the next `}`, if there is one
abbrev pub before_brace : List ℕ → Option (List ℕ)
before_brace [] = None
before_brace (b ∷ rest) = if b == 125 then Some [] else option_map (λ text. b ∷ text) (before_brace rest)

-- the expression between a `{` at the front and the next `}`
abbrev pub braced : List ℕ → Option Expr
braced [] = None
braced (b ∷ rest) = if b == 123 then option_and_then reading (before_brace rest) else None

abbrev pub piece_of : Option Expr → ℕ → Piece
piece_of None b = Byte b
piece_of (Some e) b = Embedded e

-- how many bytes of a piece stand behind its first one: the expression and the `}`
abbrev pub others_of : Option Expr → ℕ
others_of None = 0
others_of (Some e) = length (printed e) + 1

-- the pieces of a text, behind so many bytes that belong to a piece before
abbrev pub pieces_after : ℕ → List ℕ → List Piece
pieces_after skip [] = []
pieces_after zero (b ∷ rest) = piece_of (braced (b ∷ rest)) b ∷ pieces_after (others_of (braced (b ∷ rest))) rest
pieces_after (suc skip) (b ∷ rest) = pieces_after skip rest

abbrev pub pieces : List ℕ → List Piece
pieces text = pieces_after 0 text

abbrev pub flag_text : Bool → List ℕ
flag_text b = if b then codes "true" else codes "false"

abbrev pub rendered_in : Json → Json-F Json Member → List ℕ
rendered_in j Json-F.Null = codes "null"
rendered_in j (Json-F.Flag b) = flag_text b
rendered_in j (Json-F.Int z) = signed_decimal z
rendered_in j (Json-F.Text s) = s
rendered_in j _ = compact_text (data_of j)

-- a value inside a text: a text as itself, an integer in decimal, a list or object as compact JSON
abbrev pub rendered : Json → List ℕ
rendered j = rendered_in j (out-Json j)

abbrev pub embedded : Json → Result (List ℕ) Fault
embedded j = if has_opaque j then Err FractionUsed else Ok (rendered j)

abbrev pub text_of_piece : (Base → Option Json) → Piece → Result (List ℕ) Fault
text_of_piece found (Embedded e) = resolved found e >>= embedded
text_of_piece found (Byte b) = Ok (b ∷ [])

-- the text of a value, between what stands before it and what follows
abbrev pub between : List ℕ → Result (List ℕ) Fault → Result (List ℕ) Fault → Result (List ℕ) Fault
between before value after = value >>= λ text. mapped (λ more. before ++ (text ++ more)) after

-- the pieces one after another
unfoldable pub joined : (Base → Option Json) → List Piece → Result (List ℕ) Fault
joined found ps = mapped concat (all_of (map (text_of_piece found) ps))

-- the text with the values in place of the expressions that it holds
abbrev pub mixed : (Base → Option Json) → List ℕ → Result (List ℕ) Fault
mixed found text = joined found (pieces text)

-- ---- trees

-- a text that is an expression stands for its value, with its kind
unfoldable pub filled_text : (Base → Option Json) → List ℕ → Result Json Fault
filled_text found text = chosen (reading text) (resolved found) (mapped Text (mixed found text))

abbrev pub filled_member : List ℕ × Result Json Fault → Result Member Fault
filled_member m = mapped (λ v. record { name = m.0; value = v }) m.1

-- one level, with what each value inside gives in its place; a member's name stays
abbrev pub fill_step : (Base → Option Json) → Json-F (Result Json Fault) (List ℕ × Result Json Fault) → Result Json Fault
fill_step found Json-F.Null = Ok Null
fill_step found (Json-F.Flag b) = Ok (Flag b)
fill_step found (Json-F.Int z) = Ok (Int z)
fill_step found (Json-F.Text s) = filled_text found s
fill_step found (Json-F.List rs) = mapped ListOf (all_of rs)
fill_step found (Json-F.Object ms) = mapped Object (all_of (map filled_member ms))
fill_step found Json-F.Opaque = Ok Opaque

-- the tree with values in place of expressions, or the first fault in preorder
abbrev pub with_values : (Base → Option Json) → Json → Result Json Fault
with_values found = fold-Json (Result Json Fault) (List ℕ × Result Json Fault) (fill_step found) member_step

-- how deep a filled tree may nest
abbrev pub filled_depth : ℕ
filled_depth = 127

abbrev pub within_depth : Json → Result Json Fault
within_depth j = if nat_lt filled_depth (depth j) then Err TooNested else Ok j

-- what the template gives
abbrev pub filled : (Base → Option Json) → Json → Result Json Fault
filled found template = with_values found template >>= within_depth
