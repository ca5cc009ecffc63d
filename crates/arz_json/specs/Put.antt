-- A value put at the place that a JSON Pointer names (RFC 6901, section 4).
use Rattle.std.specs.Prelude.{◌≡◌, ℕ, Bool, true, false, zero, suc, ◌==◌, List, [], ◌∷◌, ◌++◌, map, if◌then◌else◌, Option, Some, None, option_map, option_and_then, slice_get, slice_set}
use Rattle.std.specs.Str.{bytes_eq}
use Rattle.serde_json.specs.Find.{index_of}
use Rattle.arz_json.specs.Pointer.{decoded}
use Rattle.arz_json.specs.declared.tree.Json.{Json, out-Json}
use Rattle.arz_json.specs.declared.tree.Json.TheOpen.{Json-F}
use Rattle.arz_json.specs.declared.tree.Json.TheVariants.{List as ListOf, Object}
use Rattle.arz_json.specs.declared.tree.Member.{Member}

abbrev pub children_in : Json-F Json Member → List Json
children_in (Json-F.List js) = js
children_in (Json-F.Object ms) = map (λ m. m.value) ms
children_in _ = []

-- the items of a list, or the values of an object
abbrev pub children : Json → List Json
children j = children_in (out-Json j)

-- the place of the member with that name
abbrev pub place_of : List Member → List ℕ → Option ℕ
place_of [] name = None
place_of (m ∷ ms) name = if bytes_eq m.name name then Some 0 else option_map (λ i. suc i) (place_of ms name)

abbrev pub child_in : List ℕ → Json-F Json Member → Option ℕ
child_in token (Json-F.List js) = index_of token
child_in token (Json-F.Object ms) = option_and_then (place_of ms) (decoded token)
child_in token _ = None

-- the place of the child that a token names
abbrev pub child_of : List ℕ → Json → Option ℕ
child_of token j = child_in token (out-Json j)

abbrev pub set_value : List Member → ℕ → Json → List Member
set_value [] i k = []
set_value (m ∷ ms) zero k = record { name = m.name; value = k } ∷ ms
set_value (m ∷ ms) (suc i) k = m ∷ set_value ms i k

abbrev pub set_child_in : Json → ℕ → Json → Json-F Json Member → Json
set_child_in j i k (Json-F.List js) = ListOf (slice_set js i k)
set_child_in j i k (Json-F.Object ms) = Object (set_value ms i k)
set_child_in j i k _ = j

-- the tree with another child at a place
abbrev pub set_child : Json → ℕ → Json → Json
set_child j i k = set_child_in j i k (out-Json j)

-- the tree with what a trade leaves of its child, and what the trade gives back
abbrev pub traded_at : (Json → Option (Json × Json)) → Json → ℕ → Option (Json × Json)
traded_at trade j i = option_and_then (λ k. option_map (λ r. (set_child j i r.0, r.1)) (trade k)) (slice_get (children j) i)

abbrev pub traded_child : (Json → Option (Json × Json)) → List ℕ → Json → Option (Json × Json)
traded_child trade token j = option_and_then (traded_at trade j) (child_of token j)

-- `token` has been read of the token that the text goes on with
unfoldable pub traded_from : Json → List ℕ → List ℕ → Json → Option (Json × Json)
traded_from new token [] j = traded_child (λ k. Some (new, k)) token j
traded_from new token (x ∷ rest) j = if x == 47 then traded_child (traded_from new [] rest) token j else traded_from new (token ++ x ∷ []) rest j

-- the tree with the new value at the place that the pointer names, and what stood there
abbrev pub traded : Json → List ℕ → Json → Option (Json × Json)
traded new [] j = Some (new, j)
traded new (x ∷ rest) j = if x == 47 then traded_from new [] rest j else None

-- the tree with the new value at the place that the pointer names
abbrev pub with_value : Json → List ℕ → Json → Option Json
with_value new pointer j = option_map (λ r. r.0) (traded new pointer j)

-- how deep a tree may nest once a value was put
abbrev pub put_depth : ℕ
put_depth = 127

-- ---- for private clauses: the trade was made, or there was no place and nothing changed

abbrev pub Trades : Option (Json × Json) → Bool → Json → Json → Json → Json → Type 0
Trades trade true old new item got = trade ≡ Some (new, got)
Trades trade false old new item got = (trade ≡ None) × (new ≡ old) × (got ≡ item)
