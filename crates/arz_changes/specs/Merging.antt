-- What an update makes of a value (Overlay 1.0.0, section 4.4.3.1).
use Rattle.std.specs.Prelude.{ℕ, List, [], ◌∷◌, ◌++◌, map, Option, Some, None, Result, Ok, Err}
use Rattle.std.specs.declared.cmp.Ordering.{Ordering}
use Rattle.std.specs.declared.cmp.Ordering.TheVariants.{Less, Equal, Greater}
use Rattle.std.specs.Ordering.{nat_cmp}
use Rattle.std.specs.Cmp.Lexicographic.{slice_cmp}
use Rattle.arz_json.specs.Tree.{member_step}
use Rattle.arz_json.specs.declared.tree.Json.{Json, out-Json}
use Rattle.arz_json.specs.declared.tree.Json.TheOpen.{Json-F}
use Rattle.arz_json.specs.declared.tree.Json.TheFolds.{fold-Json}
use Rattle.arz_json.specs.declared.tree.Json.TheVariants.{Null, Flag, Int, Text, List as ListOf, Object, Opaque}
use Rattle.arz_json.specs.declared.tree.Member.{Member}

-- what becomes of the value at a name, or is put where nothing stands
abbrev pub Merge : Type 0
Merge = Option Json → Json

abbrev pub items_in : Json-F Json Member → List Json
items_in (Json-F.List js) = js
items_in _ = []

abbrev pub members_in : Json-F Json Member → List Member
members_in (Json-F.Object ms) = ms
members_in _ = []

-- the items of a list, and the members of an object; none of another value, or where nothing stands
abbrev pub items_there : Option Json → List Json
items_there None = []
items_there (Some j) = items_in (out-Json j)

abbrev pub members_there : Option Json → List Member
members_there None = []
members_there (Some j) = members_in (out-Json j)

abbrev pub member : List ℕ → Json → Member
member name value = record { name = name; value = value }

abbrev pub with_member_by : Ordering → List ℕ × Merge → Member → List Member → List Member → List Member
with_member_by Less u m ms more = member u.0 (u.1 None) ∷ m ∷ ms
with_member_by Equal u m ms more = member u.0 (u.1 (Some m.value)) ∷ ms
with_member_by Greater u m ms more = m ∷ more

-- the members once the value at a name has changed; a name that isn't there is put where its bytes belong
abbrev pub with_member : List ℕ × Merge → List Member → List Member
with_member u [] = member u.0 (u.1 None) ∷ []
with_member u (m ∷ ms) = with_member_by (slice_cmp nat_cmp u.0 m.name) u m ms (with_member u ms)

abbrev pub with_members : List (List ℕ × Merge) → List Member → List Member
with_members [] ms = ms
with_members (u ∷ us) ms = with_members us (with_member u ms)

-- one level, with the merge of each value inside in its place: two lists are joined, two objects are merged
-- name by name, and every other value gives way
abbrev pub merge_step : Json-F Merge (List ℕ × Merge) → Merge
merge_step Json-F.Null old = Null
merge_step (Json-F.Flag b) old = Flag b
merge_step (Json-F.Int z) old = Int z
merge_step (Json-F.Text s) old = Text s
merge_step (Json-F.List us) old = ListOf (items_there old ++ map (λ u. u None) us)
merge_step (Json-F.Object us) old = Object (with_members us (members_there old))
merge_step Json-F.Opaque old = Opaque

-- what a value of the update makes of what stands at its place
abbrev pub merged : Json → Merge
merged = fold-Json Merge (List ℕ × Merge) merge_step member_step

-- ---- for private clauses

abbrev pub added_items : List Json → List Json
added_items us = map (λ u. merged u None) us

abbrev pub merge_of : Member → List ℕ × Merge
merge_of m = (m.name, merged m.value)

-- ---- an action's update at a selected place

-- rules that an action fails: the value is no object or list; the update of an object is none
abbrev pub no_target : ℕ
no_target = 25

abbrev pub no_match : ℕ
no_match = 26

abbrev pub merged_if : Json → Json → Json-F Json Member → Result Json ℕ
merged_if u j (Json-F.Object us) = Ok (merged u (Some j))
merged_if u j _ = Err no_match

abbrev pub updated_in : Json → Json → Json-F Json Member → Result Json ℕ
updated_in u j (Json-F.List js) = Ok (ListOf (js ++ u ∷ []))
updated_in u j (Json-F.Object ms) = merged_if u j (out-Json u)
updated_in u j _ = Err no_target

-- what an update makes of a selected value: a list gets it as its last item, and an object is merged with it,
-- which must be an object then
abbrev pub updated : Json → Json → Result Json ℕ
updated u j = updated_in u j (out-Json j)
