-- ---- for private clauses: values by their names
use Rattle.std.specs.Prelude.{ℕ, List, map}
use Rattle.std.specs.Borrow.{Bor}
use Rattle.std.specs.BTreeMap.{BTreeMap}
use Rattle.arz_json.specs.declared.Json.{Json}
use Rattle.arz_relation.specs.Requests.{Entry}

-- each name with its value
abbrev pub entry_of : Bor (List ℕ) × Json → Entry
entry_of e = (e.0.now, e.1)

abbrev pub entries_in : BTreeMap (Bor (List ℕ)) Json → List Entry
entries_in m = map entry_of m.entries
