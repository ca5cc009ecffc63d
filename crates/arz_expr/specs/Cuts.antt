-- For private clauses on filling.
use Rattle.std.specs.Prelude.{◌≡◌, ℕ, List, [], ◌∷◌, ◌++◌, map, if◌then◌else◌, Option, Some, None, Result, Ok, Err}
use Rattle.serde_json.specs.Written.{compact_text}
use Rattle.arz_json.specs.Tree.{has_opaque}
use Rattle.arz_json.specs.Writing.{data_of}
use Rattle.arz_json.specs.declared.tree.Json.{Json}
use Rattle.arz_expr.specs.Reading.{reading}
use Rattle.arz_expr.specs.Filling.{Fault, Unresolved, FractionUsed, TooNested, Piece, Embedded, Byte}
use Rattle.arz_expr.specs.declared.syntax.Expr.{Expr}
use Rattle.arz_expr.specs.declared.filling.FillFault.{FillFault}
use Rattle.arz_expr.specs.declared.filling.FillFault.TheVariants as fault
use Rattle.arz_expr.specs.declared.pieces.Cut.{Cut}

-- the fault of the definition that is meant; want of memory is none
abbrev pub told : FillFault → Option Fault
told fault.Unresolved = Some Unresolved
told fault.FractionUsed = Some FractionUsed
told fault.TooNested = Some TooNested
told fault.Memory = None

-- no `{` of the text begins an expression that ends where the text ends
abbrev pub OpensNone : List ℕ → Type 0
OpensNone text = (front inside : List ℕ) → text ≡ front ++ 123 ∷ inside → reading inside ≡ None

-- an expression with its braces, or a `}` that ends none
abbrev pub ended : Option Expr → Piece
ended (Some e) = Embedded e
ended None = Byte 125

-- the pieces up to the end of the cut
abbrev pub pieces_to : Cut → List Piece
pieces_to c = map Byte c.plain.now ++ ended c.expr ∷ []

-- the compact text of a tree, where it has one
abbrev pub compact_of : Json → Result (List ℕ) Fault
compact_of j = if has_opaque j then Err FractionUsed else Ok (compact_text (data_of j))
