-- What a step calls (Arazzo 1.0.1, section 4.6.5): an operation, and the URL that is given for the server of its source.
use Rattle.std.specs.Prelude.{ℕ, List, Bool, Option, Some, None, option_map, find, Result, Ok, Err}
use Rattle.std.specs.Str.{bytes_eq}
use Rattle.arz_json.specs.declared.tree.Named.{Named}
use Rattle.arz_json.specs.declared.tree.NamedText.{NamedText}
use Rattle.arz_operation.specs.Named.{operation_of}
use Rattle.arz_operation.specs.declared.types.Call.{Call}
use Rattle.arz_operation.specs.declared.types.Call.TheVariants.{Id, At, Flow}
use Rattle.arz_operation.specs.declared.types.Operation.{Operation}
use Rattle.arz_openapi.specs.Called.{Called, called}

pub record Target : Type 0 where
  pub operation : Operation
  pub given : Option (List ℕ)

abbrev pub is_for : List ℕ → NamedText → Bool
is_for source server = bytes_eq server.name source

-- the URL that is given for a source
abbrev pub given_server : List NamedText → List ℕ → Option (List ℕ)
given_server servers source = option_map (λ s. s.text) (find (is_for source) servers)

abbrev pub target_of : List NamedText → Called → Target
target_of servers c = record { operation = operation_of c.root c.standing; given = given_server servers c.source }

-- what stands in the place of an operation that is found
abbrev pub seen_at : {A B : Type 0} → (A → B) → Result A ℕ → Result B ℕ
seen_at view (Ok a) = Ok (view a)
seen_at view (Err rule) = Err rule

-- what each call comes to: a target, or the rule that the call fails; a workflow is no matter of the sources
abbrev pub Targets : Type 0
Targets = Call → Result (Option Target) ℕ

abbrev pub unless_flow : Call → Result Target ℕ → Result (Option Target) ℕ
unless_flow (Id source id) found = seen_at Some found
unless_flow (At source pointer) found = seen_at Some found
unless_flow (Flow id) found = Ok None

unfoldable pub targets : List Named → List NamedText → Targets
targets sources servers call = unless_flow call (seen_at (target_of servers) (called sources call))

-- the target of a call, where it has one
abbrev pub target_if : Result (Option Target) ℕ → Option Target
target_if (Ok target) = target
target_if (Err rule) = None
