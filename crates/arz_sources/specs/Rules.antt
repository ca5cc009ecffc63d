-- The rules that the steps of a description keep against its source documents, each as the places that fail it.
use Rattle.std.specs.Prelude.{ℕ, ◌==◌, ◌||◌, ◌&&◌, List, [], ◌∷◌, codes, Bool, true, false, Option, Some, None, option_and_then, Result, Ok, Err, if◌then◌else◌}
use Rattle.std.specs.Option.{is_some}
use Rattle.std.specs.List.{list_all, list_any}
use Rattle.std.specs.Str.{bytes_eq}
use Rattle.arz_json.specs.declared.tree.Json.{Json}
use Rattle.arz_json.specs.declared.tree.Named.{Named}
use Rattle.arz_json.specs.declared.tree.NamedText.{NamedText}
use Rattle.arz_json.specs.declared.tree.Location.TheVariants.{Path}
use Rattle.arz_json.specs.declared.place.Token.TheVariants.{Name}
use Rattle.arz_json.specs.Look.{items_at}
use Rattle.arz_rules.specs.Place.{under, here, here_unless}
use Rattle.arz_rules.specs.Sites.{Check, in_items}
use Rattle.arz_rules.specs.Phases.{Rule}
use Rattle.arz_expr.specs.declared.template.Given.{Given}
use Rattle.arz_components.specs.Described.{Components, component}
use Rattle.arz_components.specs.Texts.{text_named}
use Rattle.arz_operation.specs.Named.{is_same}
use Rattle.arz_description.specs.Calls.{call_of}
use Rattle.arz_description.specs.Requests.{given_of}
use Rattle.arz_target.specs.Templates.{names}
use Rattle.arz_target.specs.Urls.{address_of}
use Rattle.arz_openapi.specs.Targets.{Target, Targets, targets}

-- ---- the operation that a step calls isn't there, stands in several sources, or fails a rule itself

abbrev pub rule_in : Result (Option Target) ℕ → Option ℕ
rule_in (Ok target) = None
rule_in (Err rule) = Some rule

abbrev pub is_rule : ℕ → Option ℕ → Bool
is_rule rule None = false
is_rule rule (Some failed) = failed == rule

-- the member of a step that names the operation (Arazzo 1.0.1, section 4.6.5)
abbrev pub naming_member : Json → List ℕ
naming_member step = if is_some (text_named (codes "operationId") step) then codes "operationId" else codes "operationPath"

abbrev pub lost_call : (rule : ℕ) → Targets → Check
lost_call rule find step = if is_rule rule (rule_in (find (call_of step))) then under (Name (naming_member step)) here else []

-- ---- no server of the operation can be reached: the URL that the setup gives has rules of its own

abbrev pub is_served : Target → Bool
is_served target = is_some target.given || is_some (option_and_then address_of target.operation.server)

abbrev pub passes : (Target → Bool) → Result (Option Target) ℕ → Bool
passes test (Ok (Some target)) = test target
passes test (Ok None) = true
passes test (Err rule) = true

abbrev pub unserved : Targets → Check
unserved find step = here_unless (passes is_served (find (call_of step)))

-- ---- a name of the path has no parameter in path

-- the parameter is in path, and has this name
abbrev pub fills : List ℕ → Given → Bool
fills name given = is_same given.place Path && bytes_eq given.name name

-- whether one of the parameters that an object lists is in path and has this name; components stand for reusable objects
abbrev pub gives : Components → Json → List ℕ → Bool
gives component j name = list_any (λ item. fills name (given_of component item)) (items_at (codes "parameters") j)

abbrev pub is_filled : (List ℕ → Bool) → Target → Bool
is_filled given target = list_all given (names target.operation.path)

-- by the parameters of the step, and those of its workflow
abbrev pub unfilled : Targets → Components → (workflow : List ℕ → Bool) → Check
unfilled find component workflow step =
    here_unless (passes (is_filled (λ name. gives component step name || workflow name)) (find (call_of step)))

-- ---- the rules by their numbers

-- a check of each item under a name
abbrev pub at_items : List ℕ → Check → Check
at_items name check j = under (Name name) (in_items check 0 (items_at name j))

abbrev pub in_workflows : (workflow : Json → Check) → Check
in_workflows check description = at_items (codes "workflows") (λ workflow. at_items (codes "steps") (check workflow) workflow) description

abbrev pub rules_by : Targets → Components → (description : Json) → List Rule
rules_by find component description =
    (3, in_workflows (λ workflow. lost_call 3 find) description)
    ∷ (8, in_workflows (λ workflow. lost_call 8 find) description)
    ∷ (17, in_workflows (λ workflow. lost_call 17 find) description)
    ∷ (18, in_workflows (λ workflow. lost_call 18 find) description)
    ∷ (19, in_workflows (λ workflow. lost_call 19 find) description)
    ∷ (20, in_workflows (λ workflow. unserved find) description)
    ∷ (21, in_workflows (λ workflow. unfilled find component (gives component workflow)) description)
    ∷ []

abbrev pub rules : (description : Json) → (sources : List Named) → (servers : List NamedText) → List Rule
rules description sources servers = rules_by (targets sources servers) (component description) description
