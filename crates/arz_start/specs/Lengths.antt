-- What is told of a number of bytes: that number, or that it is 2^64 or more.
use Rattle.std.specs.Prelude.{ℕ, ◌≡◌, ◌≤◌, ◌^◌, ◌+◌, length, Option, Some, None}
use Rattle.arz_json.specs.declared.Member.{Member}
use Rattle.arz_wire.specs.Spelling.{spelling, counted}

abbrev pub Measures : Option ℕ → ℕ → Type 0
Measures (Some n) bytes = n ≡ bytes
Measures None bytes = 2 ^ 64 ≤ bytes

-- ---- for private clauses: the bytes of a member, its name and its value
abbrev pub member_bytes : Member → ℕ
member_bytes m = length (counted m.name) + length (spelling m.value)
