-- The entries of a journal, and the one spelling of each.
use Rattle.std.specs.Prelude.{◌≡◌, ◌<◌, ◌^◌, ℕ, zero, suc, ◌==◌, List, [], ◌∷◌, ◌++◌, length, take, drop, Bool, true, false, Result, Ok, Err, nat_lt, if◌then◌else◌}
use Rattle.std.specs.Int.{w32, to_be_bytes, from_be_bytes}
use Rattle.arz_json.specs.Tree.{IsWellFormed, max_depth}
use Rattle.arz_wire.specs.Spelling.{spelling}
use Rattle.arz_wire.specs.Texts.{has_texts}
use Rattle.arz_wire.specs.declared.fault.WireFault.{WireFault}
use Rattle.arz_wire.specs.declared.fault.WireFault.TheVariants.{Short, BadTag, NotCanonical}
use Rattle.arz_wire.specs.declared.entry.Entry.{Entry}
use Rattle.arz_wire.specs.declared.entry.Entry.TheVariants.{Start, Begun, Held, Served}
use Rattle.arz_json.specs.Answer.{◌>>=◌}
use Rattle.arz_wire.specs.Reading.{Front, place, tree_at}

-- a number of an ask has four bytes, big-endian; a message goes to the end
abbrev pub entry_spelling : Entry → List ℕ
entry_spelling (Start tree) = 1 ∷ spelling tree
entry_spelling (Begun n) = 2 ∷ to_be_bytes w32 n
entry_spelling (Held n closed message) = 3 ∷ (to_be_bytes w32 n ++ (if closed then 1 else 0) ∷ message)
entry_spelling (Served n) = 4 ∷ to_be_bytes w32 n

-- the tree of a Start is well-formed
abbrev pub IsSound : Entry → Type 0
IsSound (Start tree) = IsWellFormed tree
IsSound _ = Unit {0}

-- what can be spelled: numbers of four bytes, and a tree of texts
abbrev pub IsEntry : Entry → Type 0
IsEntry (Start tree) = IsWellFormed tree × (has_texts tree ≡ true)
IsEntry (Begun n) = n < 2 ^ 32
IsEntry (Held n closed message) = n < 2 ^ 32
IsEntry (Served n) = n < 2 ^ 32

-- ---- the row of items of a payload

abbrev pub number_at_front : List ℕ → Front ℕ
number_at_front bytes = if nat_lt (length bytes) 4 then Err Short else Ok (from_be_bytes w32 (take 4 bytes), drop 4 bytes)

unfoldable pub closed_at : ℕ → List ℕ → Front Bool
closed_at total [] = Err Short
closed_at total (zero ∷ rest) = Ok (false, rest)
closed_at total (suc zero ∷ rest) = Ok (true, rest)
closed_at total (suc (suc b) ∷ rest) = Err (BadTag (place total (suc (suc b) ∷ rest)))

-- nothing is left over
abbrev pub end_at : ℕ → List ℕ → Result (Unit {0}) WireFault
end_at total rest = if length rest == 0 then Ok tt else Err (NotCanonical (place total rest))

abbrev pub whole : ℕ → List ℕ → Entry → Result Entry WireFault
whole total rest entry = end_at total rest >>= λ _. Ok entry

abbrev pub tagged_entry : ℕ → ℕ → List ℕ → Result Entry WireFault
tagged_entry total tag rest =
    if tag == 1 then (tree_at total max_depth rest >>= λ x. whole total x.1 (Start x.0))
    else if tag == 2 then (number_at_front rest >>= λ n. whole total n.1 (Begun n.0))
    else if tag == 3 then (number_at_front rest >>= λ n. closed_at total n.1 >>= λ c. Ok (Held n.0 c.0 c.1))
    else if tag == 4 then (number_at_front rest >>= λ n. whole total n.1 (Served n.0))
    else Err (BadTag 0)

unfoldable pub entry_of : List ℕ → Result Entry WireFault
entry_of [] = Err Short
entry_of (tag ∷ rest) = tagged_entry (length (tag ∷ rest)) tag rest
