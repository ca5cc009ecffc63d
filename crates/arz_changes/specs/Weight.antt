-- How many bytes of wire form there are, and how many went and came while a tree changed.
use Rattle.std.specs.Prelude.{◌≡◌, ◌+◌, ℕ, List, length, Option, Some, None}
use Rattle.arz_json.specs.declared.tree.Json.{Json}
use Rattle.arz_json.specs.declared.tree.Member.{Member}
use Rattle.arz_wire.specs.Spelling.{spelling, spellings, counted, member_spellings}
use Rattle.arz_changes.specs.declared.tally.Tally.{Tally}

abbrev pub weight : Json → ℕ
weight j = length (spelling j)

abbrev pub weight_there : Option Json → ℕ
weight_there None = 0
weight_there (Some j) = weight j

-- of items and of members without their number
abbrev pub items_weight : List Json → ℕ
items_weight js = length (spellings js)

abbrev pub members_weight : List Member → ℕ
members_weight ms = length (member_spellings ms)

abbrev pub name_weight : List ℕ → ℕ
name_weight name = length (counted name)

-- of a member with this name, where there is one
abbrev pub member_there : List ℕ → Option Json → ℕ
member_there name None = 0
member_there name (Some j) = name_weight name + weight j

-- what was before, less what went, and with what came, is what is after
pub record Tallies (old new : Tally) (before after : ℕ) : Type 0 where
  pub balance : after + (new.gone + old.come) ≡ before + (old.gone + new.come)
