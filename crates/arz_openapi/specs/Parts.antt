-- The rules that the parameters and the body of an operation must keep, and what it is where they do.
use Rattle.std.specs.Prelude.{ℕ, min, List, [], ◌∷◌, codes, Option, Some, None, option_map, option_and_then, Result, Ok, Err, if◌then◌else◌}
use Rattle.std.specs.Str.{is_utf8}
use Rattle.percent_encoding.specs.Percent.{percent_decode}
use Rattle.arz_json.specs.declared.tree.Json.{Json}
use Rattle.arz_json.specs.declared.tree.Refusal.{Refusal}
use Rattle.arz_json.specs.Look.{list_in, member_in}
use Rattle.arz_rules.specs.Misses.{misses, are_none}
use Rattle.arz_rules.specs.Phases.{told_or, Failure}
use Rattle.arz_rules.specs.declared.kinds.Kind.{Kind}
use Rattle.arz_rules.specs.declared.kinds.Kind.TheVariants as kind
use Rattle.arz_operation.specs.References.{meant}
use Rattle.arz_operation.specs.declared.references.Lost.{Lost}
use Rattle.arz_operation.specs.declared.references.Lost.TheVariants.{NotText, Unknown, Outer, TooLong}
use Rattle.arz_operation.specs.declared.types.Operation.{Operation}
use Rattle.arz_operation.specs.Named.{Standing, by_pointer, operation_of}

-- the rule that a reference fails
abbrev pub lost_rule : Lost → ℕ
lost_rule NotText = 3
lost_rule Unknown = 8
lost_rule Outer = 18
lost_rule TooLong = 19

-- the lesser of two rules, where any fails
abbrev pub lesser_rule : Option ℕ → Option ℕ → Option ℕ
lesser_rule None s = s
lesser_rule (Some r) None = Some r
lesser_rule (Some r) (Some s) = Some (min r s)

-- the rule that fails where a part has to be of a kind, and a reference may stand in its place
abbrev pub kind_rule : Kind → Result Json Lost → Option ℕ
kind_rule k (Err lost) = Some (lost_rule lost)
kind_rule k (Ok j) = if are_none (misses j k) then None else Some 3

abbrev pub part_rule : Kind → Json → Json → Option ℕ
part_rule k root j = kind_rule k (meant root j)

-- the least rule that fails in a list
abbrev pub items_rule : Json → List Json → Option ℕ
items_rule root [] = None
items_rule root (j ∷ js) = lesser_rule (part_rule kind.OperationParameter root j) (items_rule root js)

abbrev pub list_rule : Json → Option (List Json) → Option ℕ
list_rule root None = Some 3
list_rule root (Some js) = items_rule root js

-- of the parameters of a path item or an operation, and of the body of an operation
abbrev pub parameters_by : Json → Option Json → Option ℕ
parameters_by root None = None
parameters_by root (Some j) = list_rule root (list_in j)

abbrev pub parameters_rule : (root j : Json) → Option ℕ
parameters_rule root j = parameters_by root (member_in (codes "parameters") j)

abbrev pub body_by : Json → Option Json → Option ℕ
body_by root None = None
body_by root (Some j) = part_rule kind.OperationBody root j

abbrev pub body_rule : (root operation : Json) → Option ℕ
body_rule root operation = body_by root (member_in (codes "requestBody") operation)

-- the least rule that fails at an operation's parameters, its body or their references
abbrev pub operation_rule : Json → Standing → Option ℕ
operation_rule root s = lesser_rule (parameters_rule root s.item) (lesser_rule (parameters_rule root s.operation) (body_rule root s.operation))

abbrev pub failure : ℕ → Failure
failure rule = (rule, [])

-- what is found: no operation, or one, or the refusal of one, with an empty label and an empty pointer
abbrev pub found : Json → Option Standing → Result (Option Operation) Refusal
found root None = Ok None
found root (Some s) = told_or [] (option_map failure (operation_rule root s)) (Ok (Some (operation_of root s)))

-- ---- pointers that are percent-encoded (RFC 3986, section 2.1)

-- a text that a pointer decodes to; other bytes are none
abbrev pub percent_decoded : List ℕ → Option (List ℕ)
percent_decoded pointer = if is_utf8 (percent_decode pointer) then Some (percent_decode pointer) else None

abbrev pub by_path : Json → List ℕ → Option Standing
by_path root pointer = option_and_then (by_pointer root) (percent_decoded pointer)
