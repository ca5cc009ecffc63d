-- The row of items of a tree's bytes, from left to right: tags, numbers, the bytes of texts and of names.
-- The first item that is whole and out of form decides; where an item is not whole, the bytes are short.
use Rattle.std.specs.Prelude.{ℕ, zero, suc, ◌+◌, ◌*◌, ◌-◌, ◌%◌, ◌^◌, ◌==◌, ◌&&◌, pos, negsuc, List, [], ◌∷◌, length, take, drop, Bool, true, false, Option, Some, None, Result, Ok, Err, nat_lt, nat_le, option_map, if◌then◌else◌}
use Rattle.std.specs.Str.{is_utf8}
use Rattle.std.specs.Ordering.{nat_cmp, is_lt}
use Rattle.std.specs.Cmp.Lexicographic.{slice_cmp}
use Rattle.arz_json.specs.Answer.{◌>>=◌}
use Rattle.arz_json.specs.Tree.{max_depth}
use Rattle.arz_json.specs.declared.tree.Json.{Json}
use Rattle.arz_json.specs.declared.tree.Json.TheVariants.{Null, Flag, Int, Text, List as ListOf, Object, Opaque}
use Rattle.arz_json.specs.declared.tree.Member.{Member}
use Rattle.arz_wire.specs.declared.fault.WireFault.{WireFault}
use Rattle.arz_wire.specs.declared.fault.WireFault.TheVariants.{Short, BadTag, NotCanonical, TooDeep, Memory}

-- the fault that is told of bytes; want of memory is none of theirs
abbrev pub told : WireFault → Option WireFault
told Memory = None
told Short = Some Short
told (BadTag n) = Some (BadTag n)
told (NotCanonical n) = Some (NotCanonical n)
told (TooDeep n) = Some (TooDeep n)

-- an item that stands at the front, and the bytes after it
abbrev pub Front : Type 0 → Type 0
Front A = Result (A × List ℕ) WireFault

-- how many bytes stand before these, of so many in all
abbrev pub place : ℕ → List ℕ → ℕ
place total bytes = total - length bytes

-- ---- numbers, that end with the first byte below 128, or with the tenth

-- the number's value, whether it is in its shortest form, and the bytes after it
abbrev pub lone : ℕ → List ℕ → (ℕ × Bool) × List ℕ
lone b rest = ((b, nat_lt b 128), rest)

abbrev pub more_of : ℕ → (ℕ × Bool) × List ℕ → (ℕ × Bool) × List ℕ
more_of b n = ((b % 128 + 128 * n.0.0, n.0.1 && nat_lt 0 n.0.0), n.1)

unfoldable pub number_front : ℕ → List ℕ → Option ((ℕ × Bool) × List ℕ)
number_front more [] = None
number_front zero (b ∷ rest) = Some (lone b rest)
number_front (suc more) (b ∷ rest) = if nat_lt b 128 then Some (lone b rest) else option_map (more_of b) (number_front more rest)

-- the number, if it is in form and at most so much
abbrev pub number_if : ℕ → ℕ → List ℕ → Option ((ℕ × Bool) × List ℕ) → Front ℕ
number_if total most bytes None = Err Short
number_if total most bytes (Some n) = if n.0.1 && nat_le n.0.0 most then Ok (n.0.0, n.1) else Err (NotCanonical (place total bytes))

abbrev pub number_at : ℕ → ℕ → List ℕ → Front ℕ
number_at total most bytes = number_if total most bytes (number_front 9 bytes)

abbrev pub largest_number : ℕ
largest_number = 2 ^ 64 - 1

-- ---- texts and names

abbrev pub text_if : ℕ → ℕ × List ℕ → Front (List ℕ)
text_if total n =
    if nat_lt (length n.1) n.0 then Err Short
    else if is_utf8 (take n.0 n.1) then Ok (take n.0 n.1, drop n.0 n.1)
    else Err (NotCanonical (place total n.1))

-- the number of bytes, and the bytes of UTF-8
unfoldable pub text_at : ℕ → List ℕ → Front (List ℕ)
text_at total bytes = number_at total largest_number bytes >>= text_if total

-- the name is above the one before it, in byte order
abbrev pub is_above : Option (List ℕ) → List ℕ → Bool
is_above None name = true
is_above (Some before) name = is_lt (slice_cmp nat_cmp before name)

abbrev pub name_if : ℕ → Option (List ℕ) → List ℕ × List ℕ → Front (List ℕ)
name_if total before n = if is_above before n.0 then Ok n else Err (NotCanonical (total - (length n.0 + length n.1)))

-- the name of a member, where `before` is the name of the member before it
unfoldable pub name_at : ℕ → Option (List ℕ) → List ℕ → Front (List ℕ)
name_at total before bytes = text_at total bytes >>= name_if total before

-- ---- trees

abbrev pub Reader : Type 0
Reader = List ℕ → Front Json

-- so many items, each as `inside` gives it
unfoldable pub items_at : Reader → ℕ → List ℕ → Front (List Json)
items_at inside zero bytes = Ok ([], bytes)
items_at inside (suc n) bytes = do
  first ← inside bytes
  others ← items_at inside n first.1
  Ok (first.0 ∷ others.0, others.1)

unfoldable pub members_at : Reader → ℕ → Option (List ℕ) → ℕ → List ℕ → Front (List Member)
members_at inside total before zero bytes = Ok ([], bytes)
members_at inside total before (suc n) bytes = do
  name ← name_at total before bytes
  value ← inside name.1
  others ← members_at inside total (Some name.0) n value.1
  Ok (record { name = name.0; value = value.0 } ∷ others.0, others.1)

unfoldable pub list_at : Reader → ℕ → List ℕ → Front (List Json)
list_at inside total bytes = number_at total largest_number bytes >>= λ n. items_at inside n.0 n.1

unfoldable pub object_at : Reader → ℕ → List ℕ → Front (List Member)
object_at inside total bytes = number_at total largest_number bytes >>= λ n. members_at inside total None n.0 n.1

-- what stands behind a tag that opens no list and no object
abbrev pub scalar_at : ℕ → ℕ → List ℕ → Front Json
scalar_at total tag rest =
    if tag == 0 then Ok (Null, rest)
    else if tag == 1 then Ok (Flag false, rest)
    else if tag == 2 then Ok (Flag true, rest)
    else if tag == 3 then (number_at total largest_number rest >>= λ n. Ok (Int (pos n.0), n.1))
    else if tag == 4 then (number_at total (2 ^ 63 - 1) rest >>= λ n. Ok (Int (negsuc n.0), n.1))
    else if tag == 5 then (text_at total rest >>= λ s. Ok (Text s.0, s.1))
    else Ok (Opaque, rest)

-- past the last level no list and no object may open
abbrev pub nested : Option Reader → ℕ → (Reader → Front Json) → Front Json
nested None at read = Err (TooDeep at)
nested (Some inside) at read = read inside

abbrev pub tagged : Option Reader → ℕ → ℕ → ℕ → List ℕ → Front Json
tagged inside total at tag rest =
    if nat_lt 8 tag then Err (BadTag at)
    else if tag == 6 then nested inside at (λ r. list_at r total rest >>= λ x. Ok (ListOf x.0, x.1))
    else if tag == 7 then nested inside at (λ r. object_at r total rest >>= λ x. Ok (Object x.0, x.1))
    else scalar_at total tag rest

abbrev pub level_at : Option Reader → ℕ → Reader
level_at inside total [] = Err Short
level_at inside total (tag ∷ rest) = tagged inside total (place total (tag ∷ rest)) tag rest

-- a tree in which so many levels of lists and objects may open
unfoldable pub tree_at : ℕ → ℕ → Reader
tree_at total zero = level_at None total
tree_at total (suc levels) = level_at (Some (tree_at total levels)) total

-- the tree at the front of bytes, and how many bytes its spelling has
abbrev pub counted_bytes : ℕ → Json × List ℕ → Result (Json × ℕ) WireFault
counted_bytes total x = Ok (x.0, total - length x.1)

unfoldable pub first_tree : List ℕ → Result (Json × ℕ) WireFault
first_tree bytes = tree_at (length bytes) max_depth bytes >>= counted_bytes (length bytes)
