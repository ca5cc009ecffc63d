-- The name of the last of some members.
use Rattle.std.specs.Prelude.{ℕ, List, [], ◌∷◌, Option, Some, None, unwrap_or}
use Rattle.arz_json.specs.declared.tree.Member.{Member}

abbrev pub last_name : List Member → Option (List ℕ)
last_name [] = None
last_name (m ∷ ms) = Some (unwrap_or (last_name ms) m.name)
