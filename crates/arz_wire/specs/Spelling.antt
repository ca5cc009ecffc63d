-- The wire form: the one spelling of each tree.
use Rattle.std.specs.Prelude.{ℕ, zero, suc, ◌+◌, ◌/◌, ◌%◌, ℤ, pos, negsuc, List, [], ◌∷◌, ◌++◌, length, nat_lt, if◌then◌else◌}
use Rattle.arz_json.specs.Tree.{member_step}
use Rattle.arz_json.specs.declared.tree.Json.{Json}
use Rattle.arz_json.specs.declared.tree.Json.TheOpen.{Json-F}
use Rattle.arz_json.specs.declared.tree.Json.TheFolds.{fold-Json}
use Rattle.arz_json.specs.declared.tree.Member.{Member}

-- seven bits a byte, the lowest first; a byte from 128 on has others behind it
unfoldable pub number_within : ℕ → ℕ → List ℕ
number_within zero n = n ∷ []
number_within (suc more) n = if nat_lt n 128 then n ∷ [] else (n % 128 + 128) ∷ number_within more (n / 128)

-- the shortest unsigned LEB128 of a number below 2^64, which takes at most ten bytes
abbrev pub number : ℕ → List ℕ
number n = number_within 9 n

-- how many bytes, and the bytes
abbrev pub counted : List ℕ → List ℕ
counted bytes = number (length bytes) ++ bytes

-- -1 - n for an n below 0
abbrev pub integer : ℤ → List ℕ
integer (pos n) = 3 ∷ number n
integer (negsuc n) = 4 ∷ number n

abbrev pub joined : List (List ℕ) → List ℕ
joined [] = []
joined (x ∷ xs) = x ++ joined xs

abbrev pub joined_members : List (List ℕ × List ℕ) → List ℕ
joined_members [] = []
joined_members (m ∷ ms) = counted m.0 ++ m.1 ++ joined_members ms

-- one level, with the spelling of each value inside in its place
abbrev pub spelling_step : Json-F (List ℕ) (List ℕ × List ℕ) → List ℕ
spelling_step Json-F.Null = 0 ∷ []
spelling_step (Json-F.Flag b) = (if b then 2 else 1) ∷ []
spelling_step (Json-F.Int z) = integer z
spelling_step (Json-F.Text s) = 5 ∷ counted s
spelling_step (Json-F.List xs) = 6 ∷ (number (length xs) ++ joined xs)
spelling_step (Json-F.Object ms) = 7 ∷ (number (length ms) ++ joined_members ms)
spelling_step Json-F.Opaque = 8 ∷ []

abbrev pub spelling : Json → List ℕ
spelling = fold-Json (List ℕ) (List ℕ × List ℕ) spelling_step member_step

-- ---- of items and of members, without their number

abbrev pub spellings : List Json → List ℕ
spellings [] = []
spellings (j ∷ js) = spelling j ++ spellings js

abbrev pub member_spellings : List Member → List ℕ
member_spellings [] = []
member_spellings (m ∷ ms) = counted m.name ++ spelling m.value ++ member_spellings ms
