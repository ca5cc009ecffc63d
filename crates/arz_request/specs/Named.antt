-- ---- for private clauses: things by their names, in maps
use Rattle.std.specs.Prelude.{◌≡◌, ◌&&◌, ℕ, Bool, List, Option, option_map, find}
use Rattle.std.specs.BTreeMap.{BTreeMap, get_by}
use Rattle.std.specs.Borrow.{Bor}
use Rattle.std.specs.Cmp.Lexicographic.{slice_cmp}
use Rattle.std.specs.Ordering.{nat_cmp}
use Rattle.std.specs.Str.{bytes_eq}
use Rattle.arz_json.specs.declared.Location.{Location}
use Rattle.arz_json.specs.declared.Location.TheVariants as place
use Rattle.arz_operation.specs.Named.{is_same}
use Rattle.arz_operation.specs.declared.types.Described.{Described}
use Rattle.arz_request.specs.Parameters.{Written, is_at}

-- a map under names
abbrev pub Under : Type 0 → Type 0
Under X = BTreeMap (Bor (List ℕ)) X

module _ {X Y : Type 0} (see : X → Y) (name : Y → List ℕ) (fits : Y → Bool) where
  -- what the map has under this name
  abbrev pub found_in : Under X → List ℕ → Option Y
  found_in m q = option_map see (get_by (λ k. slice_cmp nat_cmp q k.now) m)

  -- the first of these that fits and has this name
  abbrev pub first_named : List Y → List ℕ → Option Y
  first_named ys q = find (λ y. fits y && bytes_eq (name y) q) ys

  -- the map has, under each name, the first that fits
  abbrev pub Holds : Under X → List Y → Type 0
  Holds m ys = (q : List ℕ) → found_in m q ≡ first_named ys q

-- described parameters in a place
abbrev pub HoldsDescribed : Location → Under (Bor Described) → List Described → Type 0
HoldsDescribed place = Holds (λ d. d.now) (λ d. d.name) (λ d. is_same d.place place)

-- written parameters in the path
abbrev pub HoldsWritten : Under (Bor Written) → List Written → Type 0
HoldsWritten = Holds (λ w. w.now) (λ w. w.sent.name) (is_at place.Path)
