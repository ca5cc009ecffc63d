-- Trees that nest no deeper than one that is read from a text.
use Rattle.std.specs.Prelude.{List, All}
use Rattle.arz_json.specs.Tree.{IsWithin}
use Rattle.arz_json.specs.declared.tree.Json.{Json}
use Rattle.arz_json.specs.declared.tree.Member.{Member}

-- `serde_json` reads no text that nests deeper than 127
abbrev pub IsShallow : Json → Type 0
IsShallow j = IsWithin 127 j

-- each member's value is shallow
abbrev pub AreShallow : List Member → Type 0
AreShallow members = All (λ m. IsShallow m.value) members
