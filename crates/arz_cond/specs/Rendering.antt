-- The text in which a pattern is searched for (Arazzo 1.0.1, section 4.6.11): that of a value as it stands inside a text (4.7).
use Rattle.std.specs.Prelude.{ℕ, List, Bool, true, false, if◌then◌else◌, Option, Some, None}
use Rattle.arz_json.specs.declared.tree.Json.{Json, out-Json}
use Rattle.arz_json.specs.declared.tree.Json.TheOpen.{Json-F}
use Rattle.arz_json.specs.declared.tree.Member.{Member}
use Rattle.arz_expr.specs.Filling.{rendered}

abbrev pub is_scalar_in : Json-F Json Member → Bool
is_scalar_in (Json-F.List js) = false
is_scalar_in (Json-F.Object ms) = false
is_scalar_in Json-F.Opaque = false
is_scalar_in _ = true

-- of null, a flag, an integer and a text; a list, an object and an Opaque have none
unfoldable pub searched_text : Json → Option (List ℕ)
searched_text j = if is_scalar_in (out-Json j) then Some (rendered j) else None
