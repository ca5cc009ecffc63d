-- A tree without the places of a set (Overlay 1.0.0, section 4.4.3.1).
use Rattle.std.specs.Prelude.{ℕ, ◌+◌, ◌==◌, List, [], ◌∷◌, map, Bool, true, false, if◌then◌else◌, Option, Some, None, option_map}
use Rattle.std.specs.List.{list_any}
use Rattle.std.specs.Str.{bytes_eq}
use Rattle.arz_json.specs.Tree.{member_step}
use Rattle.arz_json.specs.declared.tree.Json.{Json}
use Rattle.arz_json.specs.declared.tree.Json.TheOpen.{Json-F}
use Rattle.arz_json.specs.declared.tree.Json.TheFolds.{fold-Json}
use Rattle.arz_json.specs.declared.tree.Json.TheVariants.{Null, Flag, Int, Text, List as ListOf, Object, Opaque}
use Rattle.arz_json.specs.declared.tree.Member.{Member}
use Rattle.arz_json.specs.declared.place.Token.{Token}
use Rattle.arz_json.specs.declared.place.Token.TheVariants.{Name, Index}
use Rattle.arz_changes.specs.Merging.{member}

abbrev pub same_token : Token → Token → Bool
same_token (Name a) (Name b) = bytes_eq a b
same_token (Index i) (Index k) = i == k
same_token _ _ = false

abbrev pub Places : Type 0
Places = List (List Token)

-- the places below a step, seen from there
abbrev pub below_in : Token → List Token → Places → Places
below_in t [] rest = rest
below_in t (u ∷ place) rest = if same_token t u then place ∷ rest else rest

abbrev pub below : Token → Places → Places
below t [] = []
below t (p ∷ ps) = below_in t p (below t ps)

abbrev pub is_end : List Token → Bool
is_end [] = true
is_end (t ∷ ts) = false

-- the place itself is one of them
abbrev pub has_end : Places → Bool
has_end ps = list_any is_end ps

abbrev pub Removal : Type 0
Removal = Places → Json

abbrev pub kept_items : Places → ℕ → List Removal → List Json
kept_items ps i [] = []
kept_items ps i (r ∷ rs) =
    if has_end (below (Index i) ps) then kept_items ps (i + 1) rs else r (below (Index i) ps) ∷ kept_items ps (i + 1) rs

abbrev pub kept_members : Places → List (List ℕ × Removal) → List Member
kept_members ps [] = []
kept_members ps (m ∷ ms) =
    if has_end (below (Name m.0) ps) then kept_members ps ms else member m.0 (m.1 (below (Name m.0) ps)) ∷ kept_members ps ms

abbrev pub removal_step : Json-F Removal (List ℕ × Removal) → Removal
removal_step Json-F.Null ps = Null
removal_step (Json-F.Flag b) ps = Flag b
removal_step (Json-F.Int z) ps = Int z
removal_step (Json-F.Text s) ps = Text s
removal_step (Json-F.List rs) ps = ListOf (kept_items ps 0 rs)
removal_step (Json-F.Object ms) ps = Object (kept_members ps ms)
removal_step Json-F.Opaque ps = Opaque

-- the tree without what stands at any of the places
abbrev pub without : Json → Removal
without = fold-Json Removal (List ℕ × Removal) removal_step member_step

-- ---- for private clauses

-- what a removal leaves of a child, with the places below it
abbrev pub child_kept : Json → Places → Option Json
child_kept j ps = if has_end ps then None else Some (without j ps)

abbrev pub member_kept : Member → Places → Option Member
member_kept m ps = option_map (λ j. member m.name j) (child_kept m.value ps)

abbrev pub items_kept : Places → ℕ → List Json → List Json
items_kept ps i js = kept_items ps i (map without js)

abbrev pub members_kept : Places → List Member → List Member
members_kept ps ms = kept_members ps (map (λ m. (m.name, without m.value)) ms)
