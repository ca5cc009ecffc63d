-- ---- for private clauses: names in sets, by place
use Rattle.std.specs.Prelude.{ℕ, List, Bool}
use Rattle.arz_json.specs.declared.tree.Location.{Location}
use Rattle.arz_json.specs.declared.tree.Location.TheVariants.{Path, Query, Header, Cookie}
use Rattle.arz_rules.specs.Sets.{has}
use Rattle.arz_openapi.specs.declared.joined.Names.{Names}

abbrev pub taken_in : Names → Location → List ℕ → Bool
taken_in names Path = has names.path
taken_in names Query = has names.query
taken_in names Header = has names.header
taken_in names Cookie = has names.cookie
