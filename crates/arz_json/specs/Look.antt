-- What a tree is, and what stands in it by name (RFC 8259, sections 3 to 5).
use Rattle.std.specs.Prelude.{ℕ, ℤ, List, [], Option, Some, None, option_and_then, unwrap_or}
use Rattle.arz_json.specs.Pointer.{member_named}
use Rattle.arz_json.specs.declared.tree.Json.{Json, out-Json}
use Rattle.arz_json.specs.declared.tree.Json.TheOpen.{Json-F}
use Rattle.arz_json.specs.declared.tree.Member.{Member}

abbrev pub text_step : Json-F Json Member → Option (List ℕ)
text_step (Json-F.Text s) = Some s
text_step _ = None

abbrev pub int_step : Json-F Json Member → Option ℤ
int_step (Json-F.Int z) = Some z
int_step _ = None

abbrev pub list_step : Json-F Json Member → Option (List Json)
list_step (Json-F.List js) = Some js
list_step _ = None

abbrev pub object_step : Json-F Json Member → Option (List Member)
object_step (Json-F.Object ms) = Some ms
object_step _ = None

-- the bytes of a text, the number of an Int, the items of a list, the members of an object
abbrev pub text_in : Json → Option (List ℕ)
text_in j = text_step (out-Json j)

abbrev pub int_in : Json → Option ℤ
int_in j = int_step (out-Json j)

abbrev pub list_in : Json → Option (List Json)
list_in j = list_step (out-Json j)

abbrev pub object_in : Json → Option (List Member)
object_in j = object_step (out-Json j)

-- the value of an object's member with this name
abbrev pub member_in : List ℕ → Json → Option Json
member_in name j = option_and_then (λ ms. member_named ms name) (object_in j)

-- the text, the items or the members that stand under a name, or none
abbrev pub text_at : List ℕ → Json → List ℕ
text_at name j = unwrap_or (option_and_then text_in (member_in name j)) []

abbrev pub items_at : List ℕ → Json → List Json
items_at name j = unwrap_or (option_and_then list_in (member_in name j)) []

abbrev pub members_at : List ℕ → Json → List Member
members_at name j = unwrap_or (option_and_then object_in (member_in name j)) []
