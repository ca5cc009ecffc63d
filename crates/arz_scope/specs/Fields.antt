-- The header fields of a reply, joined by name (RFC 9110, 5.2 and 5.3).
use Rattle.std.specs.Prelude.{ℕ, List, map, find, string_bytes, Option, option_and_then}
use Rattle.std.specs.Borrow.{Bor}
use Rattle.std.specs.Str.{bytes_eq, str_to_ascii_lowercase}
use Rattle.std.specs.declared.alloc.Global.{Global}
use Rattle.std.specs.declared.string.String.{String}
use Rattle.std.specs.declared.vec.Vec.{Vec}
use Rattle.arz_json.specs.declared.Json.{Json}
use Rattle.arz_scope.specs.Bodies.{field_of}
use Rattle.arz_scope.specs.declared.fields.Field.{Field}

-- the value of the field with this name, in any ASCII case; the fields' names are in lower case
abbrev pub field_named : List Field → List ℕ → Option Json
field_named fields name = option_and_then (λ f. f.value) (find (λ f. bytes_eq (str_to_ascii_lowercase name) f.name) fields)

-- ---- for private clauses

-- a name, and the values of its lines
abbrev pub Group : Type 0
Group = String Global × Vec (Bor (List ℕ)) Global

-- the field that a group gives
abbrev pub field_from : Group → Field
field_from g = record { name = string_bytes g.0; value = field_of (map (λ v. v.now) g.1.items) }
