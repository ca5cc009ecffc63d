-- The member of a tree nests no deeper than the tree.
use Rattle.std.proofs.Common.{◌≡◌, List, ℕ, Option, Some, None, sym}
use Rattle.std.specs.Prelude.{IfSome}
use Rattle.std.specs.Borrow.{Bor}
use Rattle.std.specs.Option.{option_copied}
use Rattle.arz_json.specs.Look.{member_in}
use Rattle.arz_json.specs.Tree.{IsWithin}
use Rattle.arz_json.specs.declared.tree.Json.{Json}
use Rattle.arz_json.proofs.Parts.{IsWithin-member_in}

pub member-within : (r : Option (Bor Json)) (name : List ℕ) (j : Json) → option_copied r ≡ member_in name j → IsWithin 127 j → IfSome r (λ k. IsWithin 127 k.now)
member-within None name j e w = tt
member-within (Some b) name j e w = IsWithin-member_in 127 name j b.now (sym e) w
