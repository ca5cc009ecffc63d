-- Sources as the code holds them, and what it finds in them.
use Rattle.std.specs.Prelude.{ℕ, List, [], ◌∷◌, Bool, Option, Some, None, option_map, option_and_then, find, map, Result, Ok, Err}
use Rattle.std.specs.Option.{option_to_list}
use Rattle.std.specs.List.{filter_map}
use Rattle.std.specs.Str.{bytes_eq}
use Rattle.std.specs.Cmp.Lexicographic.{slice_cmp}
use Rattle.std.specs.Ordering.{nat_cmp}
use Rattle.std.specs.BTreeMap.{BTreeMap, get_by}
use denote.Ref.{Bor}
use Rattle.arz_json.specs.declared.tree.Json.{Json}
use Rattle.arz_json.specs.declared.tree.Named.{Named}
use Rattle.arz_json.specs.declared.tree.NamedText.{NamedText}
use Rattle.arz_operation.specs.Named.{Standing, operation_of}
use Rattle.arz_operation.specs.declared.types.Operation.{Operation}
use Rattle.arz_openapi.specs.Parts.{operation_rule}
use Rattle.arz_operation.specs.declared.types.Call.{Call}
use Rattle.arz_operation.specs.declared.types.Call.TheVariants.{Id, At, Flow}
use Rattle.arz_openapi.specs.Called.{Lookup, with_id, at_pointer}
use Rattle.arz_openapi.specs.Targets as spec
use Rattle.arz_openapi.specs.Targets.{Targets, given_server, unless_flow, seen_at}
use Rattle.arz_sources.specs.Seen.{seen_target}
use Rattle.arz_sources.specs.declared.sources.Source.{Source}
use Rattle.arz_sources.specs.declared.sources.Sources.{Sources}
use Rattle.arz_sources.specs.declared.calls.Target.{Target}
use Rattle.arz_sources.specs.declared.calls.Lost.{Lost}
use Rattle.arz_sources.specs.declared.calls.Lost.TheVariants.{Rule, Memory}

-- a source with the URL that the setup gives for it
pub record Served : Type 0 where
  pub name : List ℕ
  pub root : Json
  pub server : Option (List ℕ)

abbrev pub served : List NamedText → Named → Served
served servers source = record { name = source.name; root = source.root; server = given_server servers source.name }

abbrev pub seen_source : Source → Served
seen_source s = record { name = s.name.now; root = s.operations; server = option_map (λ t. t.now) s.server }

abbrev pub source_in_map : BTreeMap (Bor (List ℕ)) (Bor Source) → List ℕ → Option Served
source_in_map m q = option_map (λ s. seen_source s.now) (get_by (λ k. slice_cmp nat_cmp q k.now) m)

-- ---- what is found in them

abbrev pub shown : Served → Operation → spec.Target
shown source operation = record { operation = operation; given = source.server }

abbrev pub outcome_by : Option ℕ → spec.Target → Result spec.Target ℕ
outcome_by None target = Ok target
outcome_by (Some rule) target = Err rule

abbrev pub outcome_at : Served → Standing → Result spec.Target ℕ
outcome_at source s = outcome_by (operation_rule source.root s) (shown source (operation_of source.root s))

abbrev pub seen_outcome : Result Target ℕ → Result spec.Target ℕ
seen_outcome outcome = seen_at seen_target outcome

abbrev pub asked : Lookup → Served → Option (Result spec.Target ℕ)
asked look source = option_map (outcome_at source) (look source.root)

abbrev pub has_name : List ℕ → Served → Bool
has_name name source = bytes_eq source.name name

abbrev pub named_in : List Served → List ℕ → Option Served
named_in sources name = find (has_name name) sources

abbrev pub asked_named : (List ℕ → Option Served) → List ℕ → Lookup → List (Result spec.Target ℕ)
asked_named named name look = option_to_list (option_and_then (asked look) (named name))

abbrev pub outcomes : List Served → (List ℕ → Option Served) → Call → List (Result spec.Target ℕ)
outcomes sources named (Id None id) = filter_map (asked (with_id id)) sources
outcomes sources named (Id (Some name) id) = asked_named named name (with_id id)
outcomes sources named (At name pointer) = asked_named named name (at_pointer pointer)
outcomes sources named (Flow id) = []

abbrev pub only_of : List (Result spec.Target ℕ) → Result spec.Target ℕ
only_of [] = Err 8
only_of (outcome ∷ []) = outcome
only_of (outcome ∷ other ∷ more) = Err 17

abbrev pub found_by : List Served → (List ℕ → Option Served) → Targets
found_by sources named call = unless_flow call (only_of (outcomes sources named call))

-- what is found in some sources, and in one more
abbrev pub one_of : Option (Result spec.Target ℕ) → Option (Result spec.Target ℕ) → Result (Option (Result spec.Target ℕ)) ℕ
one_of None more = Ok more
one_of (Some outcome) None = Ok (Some outcome)
one_of (Some outcome) (Some other) = Err 17

unfoldable pub found_in : Sources → Targets
found_in sources = found_by (map seen_source sources.list.now) (source_in_map sources.names)

abbrev pub lost_cause : Lost → Option ℕ
lost_cause (Rule rule) = Some rule
lost_cause Memory = None
