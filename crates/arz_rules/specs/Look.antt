-- ---- for private clauses: members in order
use Rattle.std.specs.Prelude.{◌≡◌, List, map, true}
use Rattle.arz_json.specs.Tree.{are_ordered, has_form}
use Rattle.arz_json.specs.declared.tree.Member.{Member}

abbrev pub AreOrdered : List Member → Type 0
AreOrdered ms = are_ordered (map (λ m. (m.name, has_form m.value)) ms) ≡ true
