-- For private clauses: members in the order of their names, from the front.
use Rattle.std.specs.Prelude.{◌≡◌, ℕ, List, [], ◌∷◌, Bool, true, if◌then◌else◌, Option, Some, None}
use Rattle.std.specs.Ordering.{nat_cmp, is_gt}
use Rattle.std.specs.Cmp.Lexicographic.{slice_cmp}
use Rattle.std.specs.Str.{bytes_eq}
use Rattle.arz_json.specs.declared.tree.Json.{Json}
use Rattle.arz_json.specs.declared.tree.Member.{Member}

-- a name comes after that of a member
abbrev pub is_after : List ℕ → Member → Bool
is_after name m = is_gt (slice_cmp nat_cmp name m.name)

-- the first members, which the name comes after, and the others
abbrev pub before : List ℕ → List Member → List Member
before name [] = []
before name (m ∷ ms) = if is_after name m then m ∷ before name ms else []

abbrev pub from : List ℕ → List Member → List Member
from name [] = []
from name (m ∷ ms) = if is_after name m then from name ms else m ∷ ms

-- the value of the first member, where it has the name, and the members without that one
abbrev pub value_in_front : List ℕ → List Member → Option Json
value_in_front name [] = None
value_in_front name (m ∷ ms) = if bytes_eq m.name name then Some m.value else None

abbrev pub behind_front : List ℕ → List Member → List Member
behind_front name [] = []
behind_front name (m ∷ ms) = if bytes_eq m.name name then ms else m ∷ ms

-- the first member was taken away, where the name comes after it
abbrev pub PopsBefore : List ℕ → List Member → Option Member → List Member → Type 0
PopsBefore name old (Some m) new = (old ≡ m ∷ new) × (is_after name m ≡ true)
PopsBefore name old None new = (new ≡ old) × (before name old ≡ []) × (from name old ≡ old)
