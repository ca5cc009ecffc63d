-- The overlays that a setup lists (`overlays`): each is for the description, or for the source that it names.
use Rattle.std.specs.Prelude.{ℕ, ◌+◌, List, [], ◌∷◌, ◌++◌, Bool, true, false, if◌then◌else◌, codes, Option, Some, None}
use Rattle.std.specs.Fmt.{decimal}
use Rattle.std.specs.Str.{bytes_eq}
use Rattle.arz_json.specs.Look.{text_at, items_at}
use Rattle.arz_json.specs.declared.Json.{Json}
use Rattle.arz_rules.specs.Sites.{text_named}
use Rattle.arz_bundle.specs.declared.overlays.Listed.{Listed as ListedHere}

-- an overlay's number in the setup's whole list, and the path of its file
pub record Listed : Type 0 where
  pub index : ℕ
  pub path : List ℕ

-- whose overlay it is: a source's name, or None for the description
abbrev pub is_same : Option (List ℕ) → Option (List ℕ) → Bool
is_same None None = true
is_same None (Some name) = false
is_same (Some whose) None = false
is_same (Some whose) (Some name) = bytes_eq whose name

-- an item without `source` is for the description
abbrev pub is_for : (whose : Option (List ℕ)) → (item : Json) → Bool
is_for whose item = is_same whose (text_named (codes "source") item)

abbrev pub listed : ℕ → Json → Listed
listed k item = record { index = k; path = text_at (codes "path") item }

-- of the items from number k on, those that are whose
abbrev pub items_for : (whose : Option (List ℕ)) → ℕ → List Json → List Listed
items_for whose k [] = []
items_for whose k (item ∷ items) = if is_for whose item then listed k item ∷ items_for whose (k + 1) items else items_for whose (k + 1) items

-- in the order of the setup's list
abbrev pub overlays_for : (whose : Option (List ℕ)) → (setup : Json) → List Listed
overlays_for whose setup = items_for whose 0 (items_at (codes "overlays") setup)

-- the label of an overlay in refusals
abbrev pub overlay_label : ℕ → List ℕ
overlay_label k = codes "overlay " ++ decimal k

-- ---- for private clauses

abbrev pub seen : ListedHere → Listed
seen o = record { index = o.index; path = o.path.now }
