-- What is printed of an overlay over a file, and the status.
use Rattle.std.specs.Prelude.{◌≡◌, ◌⊎◌, ℕ, List, ◌++◌, codes, decimal, if◌then◌else◌, Option, Some, None, option_map, Result, Ok, Err}
use Rattle.serde_json.specs.Written.{compact_text}
use Rattle.arz_json.specs.Tree.{has_opaque}
use Rattle.arz_json.specs.Writing.{data_of}
use Rattle.arz_json.specs.declared.tree.Json.{Json}
use Rattle.arz_json.specs.declared.tree.Refusal.{Refusal}
use Rattle.arz_rx.specs.Patterns.{PatternsView, Rose}
use Rattle.arz_overlay.specs.Applied.{Says}
use Rattle.arz_overlay.specs.Documents.{Document, document}
use Rattle.arz_overlay.specs.Overlaid.{Patterned, overlaid}
use Rattle.arz_probe.specs.Reports.{good, refused, tree_in}
use Rattle.arz_probe.specs.Selections.{pattern_form}
use Rattle.arz_probe.specs.declared.report.Report.{Report}

-- a tree as a line, unless a number in it isn't kept
abbrev pub tree_form : Json → Report
tree_form j = if has_opaque j then refused (codes "FractionUsed") else good (compact_text (data_of j))

-- a rule and its place
abbrev pub refusal_form : Refusal → Report
refusal_form r = refused (decimal r.rule ++ codes " " ++ r.pointer)

abbrev pub result_form : Result Json Refusal → Report
result_form (Ok j) = tree_form j
result_form (Err r) = refusal_form r

-- a document that is taken, over a tree
abbrev pub applied_if : Patterned → Json → Result Document Refusal → Option (Result Json Refusal)
applied_if told root (Ok d) = overlaid told d root
applied_if told root (Err r) = Some (Err r)

abbrev pub applied : Patterned → Json → Json → Option (Result Json Refusal)
applied told overlay root = applied_if told root (document (codes "overlay") overlay)

-- that is printed, where it is told; or a pattern was too big
abbrev pub PrintsOverlaid : Option (Result Json Refusal) → PatternsView → PatternsView → Report → Type 0
PrintsOverlaid meant old new r = Says (option_map result_form meant) r ⊎ ((r ≡ pattern_form) × Rose old.too_big new.too_big)

-- what is printed of the bytes of an overlay and of a file
pub data OverlayReport (overlay bytes : List ℕ) (old new : PatternsView) (r : Report) : Type 0 where
  no_overlay : tree_in overlay ≡ None → r ≡ refused (codes "NotJson") → OverlayReport overlay bytes old new r
  not_json : tree_in bytes ≡ None → r ≡ refused (codes "NotJson") → OverlayReport overlay bytes old new r
  overlays : (description root : Json) → tree_in overlay ≡ Some description → tree_in bytes ≡ Some root → PrintsOverlaid (applied old.told description root) old new r → OverlayReport overlay bytes old new r
