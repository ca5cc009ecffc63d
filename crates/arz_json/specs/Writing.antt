-- The text of a tree.
use Rattle.std.specs.Prelude.{ℕ, List, [], ◌∷◌}
use Rattle.serde_json.specs.Data as serde
use Rattle.serde_json.specs.Find.{of_integer}
use Rattle.serde_json.specs.View.{items_of}
use Rattle.arz_json.specs.Tree.{member_step}
use Rattle.arz_json.specs.declared.tree.Json.{Json}
use Rattle.arz_json.specs.declared.tree.Json.TheOpen.{Json-F}
use Rattle.arz_json.specs.declared.tree.Json.TheFolds.{fold-Json}

abbrev pub named_values : List (List ℕ × serde.Data) → serde.Members
named_values [] = serde.no_members
named_values (m ∷ ms) = serde.member m.0 m.1 (named_values ms)

-- an Opaque has no data, and stands as null
abbrev pub data_step : Json-F serde.Data (List ℕ × serde.Data) → serde.Data
data_step Json-F.Null = serde.null
data_step (Json-F.Flag b) = serde.boolean b
data_step (Json-F.Int z) = serde.number (of_integer z)
data_step (Json-F.Text s) = serde.string s
data_step (Json-F.List ds) = serde.array (items_of ds)
data_step (Json-F.Object ms) = serde.object (named_values ms)
data_step Json-F.Opaque = serde.null

-- the data of `serde_json` that a tree with no Opaque stands for
abbrev pub data_of : Json → serde.Data
data_of = fold-Json serde.Data (List ℕ × serde.Data) data_step member_step
