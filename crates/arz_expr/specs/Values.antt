-- What an expression stands for (Arazzo 1.0.1, section 4.7), where `found` gives what each base names.
use Rattle.std.specs.Prelude.{ℕ, List, [], ◌∷◌, Option, Some, None, option_and_then, slice_get}
use Rattle.arz_json.specs.declared.tree.Json.{Json}
use Rattle.arz_json.specs.Look.{list_in, member_in}
use Rattle.arz_json.specs.Pointer.{named}
use Rattle.arz_expr.specs.declared.syntax.Base.{Base}
use Rattle.arz_expr.specs.declared.syntax.Tail.{Tail}
use Rattle.arz_expr.specs.declared.syntax.Tail.TheVariants.{Member, Index}
use Rattle.arz_expr.specs.declared.syntax.Expr.{Expr}

-- the member of an object, or the item of a list
abbrev pub step_in : Tail → Json → Option Json
step_in (Member name) value = member_in name value
step_in (Index i) value = option_and_then (λ items. slice_get items i) (list_in value)

-- one step after the other
abbrev pub steps_in : List Tail → Json → Option Json
steps_in [] value = Some value
steps_in (step ∷ steps) value = option_and_then (steps_in steps) (step_in step value)

-- what the pointer names (RFC 6901, section 4), where there is one
abbrev pub pointed_in : Option (List ℕ) → Json → Option Json
pointed_in None value = Some value
pointed_in (Some pointer) value = named pointer value

-- the base's value, from there the tail, and from there the pointer
abbrev pub value_in : (Base → Option Json) → Expr → Option Json
value_in found e = option_and_then (pointed_in e.pointer) (option_and_then (steps_in e.tail) (found e.base))
