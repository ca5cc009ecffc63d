-- For private clauses: how deep an update reaches, seen from the root of the tree that it is merged into.
use Rattle.std.specs.Prelude.{ℕ, ◌+◌, List, length, Option, Some, None}
use Rattle.arz_json.specs.Tree.{depth}
use Rattle.arz_json.specs.declared.tree.Json.{Json, out-Json}
use Rattle.arz_json.specs.declared.tree.Json.TheOpen.{Json-F}
use Rattle.arz_json.specs.declared.tree.Member.{Member}
use Rattle.arz_json.specs.declared.place.Token.{Token}
use Rattle.arz_changes.specs.Actions.{standing}

abbrev pub above_in : Json-F Json Member → ℕ → ℕ
above_in (Json-F.List js) n = n + 1
above_in _ n = n

-- it lies in so many lists and objects, and in the list itself that it is put into
abbrev pub above : Option Json → ℕ → ℕ
above None n = n
above (Some j) n = above_in (out-Json j) n

abbrev pub reach : Json → List Token → Json → ℕ
reach u p j = above (standing p j) (length p) + depth u
