-- What a step calls (Arazzo 1.0.1, section 4.6.5).
use Rattle.std.specs.Prelude.{ℕ, ◌==◌, ◌&&◌, ◌||◌, List, [], codes, Bool, Option, Some, None, option_and_then, if◌then◌else◌}
use Rattle.std.specs.List.{list_all}
use Rattle.arz_json.specs.Texts.{split_once}
use Rattle.arz_json.specs.Look.{text_at}
use Rattle.arz_json.specs.declared.tree.Json.{Json}
use Rattle.arz_expr.specs.Grammar.{is_name, is_pointer_byte, is_rooted, escapes_tildes}
use Rattle.arz_components.specs.Texts.{after, text_named}
use Rattle.arz_operation.specs.declared.types.Call.{Call}
use Rattle.arz_operation.specs.declared.types.Call.TheVariants.{Id, At, Flow}

-- ---- an operationId

abbrev pub if_named : Option (List ℕ × List ℕ) → Option (List ℕ × List ℕ)
if_named None = None
if_named (Some p) = if is_name p.0 then Some p else None

-- a name, and what follows the `.` after it
abbrev pub dotted : List ℕ → Option (List ℕ × List ℕ)
dotted text = if_named (split_once 46 text)

-- of an operationId `$sourceDescriptions.NAME.ID` the source's name and the operation's
abbrev pub source_and_id : List ℕ → Option (List ℕ × List ℕ)
source_and_id text = option_and_then dotted (after (codes "$sourceDescriptions.") text)

-- ---- an operationPath

-- a JSON Pointer (RFC 6901, section 3) of the bytes that stand in expressions, and of `{` and `}`
abbrev pub is_path_pointer : List ℕ → Bool
is_path_pointer text = is_rooted text && list_all (λ b. is_pointer_byte b || b == 123 || b == 125) text && escapes_tildes text

abbrev pub if_pointer : List ℕ → List ℕ → Option (List ℕ × List ℕ)
if_pointer name pointer = if is_path_pointer pointer then Some (name, pointer) else None

abbrev pub with_pointer : List ℕ × List ℕ → Option (List ℕ × List ℕ)
with_pointer p = option_and_then (if_pointer p.0) (after (codes "url}#") p.1)

-- of an operationPath `{$sourceDescriptions.NAME.url}#POINTER` the source's name and the pointer
abbrev pub source_and_pointer : List ℕ → Option (List ℕ × List ℕ)
source_and_pointer text = option_and_then with_pointer (option_and_then dotted (after (codes "{$sourceDescriptions.") text))

-- ---- what is called

-- an operation by its operationId, in the source that is named, or in any
abbrev pub named_in : List ℕ → Option (List ℕ × List ℕ) → Call
named_in text None = Id None text
named_in text (Some p) = Id (Some p.0) p.1

abbrev pub operation_with : List ℕ → Call
operation_with text = named_in text (source_and_id text)

-- an operation by its place; a text of another form names no source
abbrev pub placed_in : List ℕ → Option (List ℕ × List ℕ) → Call
placed_in text None = At [] text
placed_in text (Some p) = At p.0 p.1

abbrev pub operation_at : List ℕ → Call
operation_at text = placed_in text (source_and_pointer text)

-- the first that is written of operationId, operationPath and workflowId
abbrev pub call_by : (id path : Option (List ℕ)) → (flow : List ℕ) → Call
call_by (Some id) path flow = operation_with id
call_by None (Some path) flow = operation_at path
call_by None None flow = Flow flow

abbrev pub call_of : Json → Call
call_of step = call_by (text_named (codes "operationId") step) (text_named (codes "operationPath") step) (text_at (codes "workflowId") step)
