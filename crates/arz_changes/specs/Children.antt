-- The children of a value, and a value that changes at a place of a tree.
use Rattle.std.specs.Prelude.{ℕ, List, [], ◌∷◌, length, nat_lt, if◌then◌else◌, Option, Some, None, Result, Ok, Err, slice_get}
use Rattle.arz_json.specs.Answer.{◌>>=◌}
use Rattle.arz_json.specs.Put.{children, place_of, set_child}
use Rattle.arz_json.specs.declared.tree.Json.{Json, out-Json}
use Rattle.arz_json.specs.declared.tree.Json.TheOpen.{Json-F}
use Rattle.arz_json.specs.declared.tree.Member.{Member}
use Rattle.arz_json.specs.declared.place.Token.{Token}
use Rattle.arz_json.specs.declared.place.Token.TheVariants.{Name, Index}

abbrev pub item_at : ℕ → Json-F Json Member → Option ℕ
item_at i (Json-F.List js) = if nat_lt i (length js) then Some i else None
item_at i _ = None

abbrev pub member_at : List ℕ → Json-F Json Member → Option ℕ
member_at name (Json-F.Object ms) = place_of ms name
member_at name _ = None

abbrev pub child_in : Token → Json-F Json Member → Option ℕ
child_in (Index i) x = item_at i x
child_in (Name name) x = member_at name x

-- the number of the child that a token names (RFC 9535, section 2.7)
abbrev pub child_of : Token → Json → Option ℕ
child_of token j = child_in token (out-Json j)

abbrev pub changed_value : {F : Type 0} → (Json → Result Json F) → F → Json → ℕ → Option Json → Result Json F
changed_value change none j i None = Err none
changed_value change none j i (Some child) = change child >>= (λ k. Ok (set_child j i k))

abbrev pub changed_child : {F : Type 0} → (Json → Result Json F) → F → Json → Option ℕ → Result Json F
changed_child change none j None = Err none
changed_child change none j (Some i) = changed_value change none j i (slice_get (children j) i)

-- the tree once the value at a place has changed; a fault where nothing stands there
abbrev pub changed : {F : Type 0} → (Json → Result Json F) → F → List Token → Json → Result Json F
changed change none [] j = change j
changed change none (token ∷ place) j = changed_child (changed change none place) none j (child_of token j)
