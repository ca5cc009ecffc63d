-- The operation of a source document that a step calls (Arazzo 1.0.1, section 4.6.5).
use Rattle.std.specs.Prelude.{ℕ, List, [], ◌∷◌, Bool, Option, Some, None, option_map, option_and_then, find, Result, Ok, Err}
use Rattle.std.specs.Option.{option_to_list}
use Rattle.std.specs.List.{filter_map}
use Rattle.std.specs.Str.{bytes_eq}
use Rattle.arz_json.specs.declared.tree.Json.{Json}
use Rattle.arz_json.specs.declared.tree.Named.{Named}
use Rattle.arz_operation.specs.Named.{Standing, by_id}
use Rattle.arz_openapi.specs.Parts.{operation_rule, by_path}
use Rattle.arz_operation.specs.declared.types.Call.{Call}
use Rattle.arz_operation.specs.declared.types.Call.TheVariants.{Id, At, Flow}

-- an operation of a source: the source's name, its document, and where the operation stands in it
pub record Called : Type 0 where
  pub source : List ℕ
  pub root : Json
  pub standing : Standing

abbrev pub called_at : Named → Standing → Called
called_at source standing = record { source = source.name; root = source.root; standing = standing }

-- ---- where an operation is looked for

-- what finds an operation in a document
abbrev pub Lookup : Type 0
Lookup = Json → Option Standing

-- by its operationId, or by its place
abbrev pub with_id : List ℕ → Lookup
with_id id root = by_id root id

abbrev pub at_pointer : List ℕ → Lookup
at_pointer pointer root = by_path root pointer

abbrev pub in_source : Lookup → Named → Option Called
in_source look source = option_map (called_at source) (look source.root)

abbrev pub has_name : List ℕ → Named → Bool
has_name name source = bytes_eq source.name name

abbrev pub source_named : List Named → List ℕ → Option Named
source_named sources name = find (has_name name) sources

abbrev pub in_named : List Named → List ℕ → Lookup → List Called
in_named sources name look = option_to_list (option_and_then (in_source look) (source_named sources name))

-- the operations that a call names: where it names no source, in each of them
abbrev pub candidates : List Named → Call → List Called
candidates sources (Id None id) = filter_map (in_source (with_id id)) sources
candidates sources (Id (Some name) id) = in_named sources name (with_id id)
candidates sources (At name pointer) = in_named sources name (at_pointer pointer)
candidates sources (Flow id) = []

-- ---- which of them is called

-- an operation, or the rule that its parameters, its body or their references fail
abbrev pub unless_fails : Called → Option ℕ → Result Called ℕ
unless_fails c None = Ok c
unless_fails c (Some rule) = Err rule

abbrev pub accepted : Called → Result Called ℕ
accepted c = unless_fails c (operation_rule c.root c.standing)

-- the only one; rule 8 fails where there is none, and rule 17 where there are several
abbrev pub only : List Called → Result Called ℕ
only [] = Err 8
only (c ∷ []) = accepted c
only (c ∷ d ∷ more) = Err 17

-- the operation that a step calls, or the rule that its call fails; a call of a workflow names none
abbrev pub called : List Named → Call → Result Called ℕ
called sources call = only (candidates sources call)
