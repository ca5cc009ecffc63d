-- What is made, or the cause why it can't be.
use Rattle.std.specs.Prelude.{Option, Some, None, Result, Ok, Err}
use Rattle.arz_json.specs.Answer.{◌>>=◌}
use Rattle.arz_json.specs.declared.Json.{Json}
use Rattle.arz_expr.specs.Filling.{Fault, Unresolved, FractionUsed, TooNested, filled}
use Rattle.arz_json.specs.declared.writer.CompactFault.{CompactFault}
use Rattle.arz_json.specs.declared.writer.CompactFault.TheVariants as compact
use Rattle.arz_expr.specs.declared.filling.FillFault.{FillFault}
use Rattle.arz_expr.specs.declared.filling.FillFault.TheVariants as fill
use Rattle.arz_expr.specs.declared.syntax.Base.{Base}
use Rattle.arz_style.specs.declared.fault.StyleFault.{StyleFault}
use Rattle.arz_style.specs.declared.fault.StyleFault.TheVariants as style
use Rattle.arz_request.specs.declared.cause.Cause.{Cause}
use Rattle.arz_request.specs.declared.cause.Cause.TheVariants as cause
use Rattle.arz_request.specs.declared.cause.BuildFault.{BuildFault}
use Rattle.arz_request.specs.declared.cause.BuildFault.TheVariants.{Stuck, Memory}

abbrev pub Made : Type 0 → Type 0
Made X = Result X Cause

-- the same with what is made of it
abbrev pub made_of : {X Y : Type 0} → (X → Y) → Made X → Made Y
made_of f made = made >>= λ x. Ok (f x)

-- ---- a template filled with the values of its expressions (Arazzo 1.0.1, section 4.7)

abbrev pub cause_of_filling : Fault → Cause
cause_of_filling Unresolved = cause.Unresolved
cause_of_filling FractionUsed = cause.FractionUsed
cause_of_filling TooNested = cause.TooNested

abbrev pub by_filling : Result Json Fault → Made Json
by_filling (Ok tree) = Ok tree
by_filling (Err fault) = Err (cause_of_filling fault)

abbrev pub filling : (found : Base → Option Json) → (template : Json) → Made Json
filling found template = by_filling (filled found template)

-- ---- a value written in a style, or as a form

-- no definition answers want of memory
abbrev pub cause_of_style : StyleFault → Cause
cause_of_style style.NotSerializable = cause.NotSerializable
cause_of_style style.FractionUsed = cause.FractionUsed
cause_of_style style.Memory = cause.NotSerializable

abbrev pub by_style : {X : Type 0} → Result X StyleFault → Made X
by_style (Ok x) = Ok x
by_style (Err fault) = Err (cause_of_style fault)

-- ---- what a call answers

-- the cause that is told; want of memory is none
abbrev pub told : BuildFault → Option Cause
told (Stuck why) = Some why
told Memory = None

-- ---- for private clauses: the fault of a call below

abbrev pub fault_of_filling : FillFault → BuildFault
fault_of_filling fill.Unresolved = Stuck cause.Unresolved
fault_of_filling fill.FractionUsed = Stuck cause.FractionUsed
fault_of_filling fill.TooNested = Stuck cause.TooNested
fault_of_filling fill.Memory = Memory

abbrev pub fault_of_style : StyleFault → BuildFault
fault_of_style style.NotSerializable = Stuck cause.NotSerializable
fault_of_style style.FractionUsed = Stuck cause.FractionUsed
fault_of_style style.Memory = Memory

abbrev pub fault_of_compact : CompactFault → BuildFault
fault_of_compact compact.FractionUsed = Stuck cause.FractionUsed
fault_of_compact compact.Memory = Memory
