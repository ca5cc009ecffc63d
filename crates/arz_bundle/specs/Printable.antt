-- For private clauses: what a tree that is taken has.
use Rattle.std.specs.Prelude.{◌≡◌, false, [], codes, Some}
use Rattle.arz_json.specs.Look.{member_in}
use Rattle.arz_json.specs.Tree.{IsWellFormed, has_opaque}
use Rattle.arz_json.specs.declared.Json.{Json}
use Rattle.arz_rules.specs.Misses.{misses}
use Rattle.arz_rules.specs.declared.kinds.Kind.TheVariants as Kind

-- an item of a list of replies
pub record IsItem (item : Json) : Type 0 where
  pub well_formed : IsWellFormed item
  pub met : misses item Kind.Reply ≡ []
  pub plain : (body : Json) → member_in (codes "body") item ≡ Some body → misses body Kind.Solid ≡ []

-- a tree that has a compact text
pub record IsPrintable (tree : Json) : Type 0 where
  pub well_formed : IsWellFormed tree
  pub no_opaque : has_opaque tree ≡ false
