-- How the files of a run are read, and what comes of them: phase by phase, and in each the first rule that fails.
use Rattle.std.specs.Prelude.{◌≡◌, ◌≢◌, ◌⊎◌, ◌<◌, ◌≤◌, ℕ, List, [], ◌∷◌, length, codes, Option, Some, None}
use Rattle.std.specs.declared.result.Result.{Result}
use Rattle.std.specs.declared.result.Result.TheVariants.{Ok, Err}
use Rattle.arz_json.specs.Look.{text_at, items_at}
use Rattle.arz_json.specs.Reading.{Reads}
use Rattle.arz_json.specs.Tree.{IsWithin}
use Rattle.arz_json.specs.declared.Json.{Json}
use Rattle.arz_json.specs.declared.Named.{Named}
use Rattle.arz_json.specs.declared.Refusal.{Refusal}
use Rattle.arz_world.specs.Outside.{FilesView, ReadsAs, Rose}
use Rattle.arz_world.specs.declared.Reply.{Reply}
use Rattle.arz_flow.specs.declared.bundle.Bundle.{Bundle}
use Rattle.arz_overlay.specs.Applied.{Says}
use Rattle.arz_overlay.specs.Documents.{Document, document}
use Rattle.arz_overlay.specs.Overlaid.{overlaid}
use Rattle.arz_rules.specs.Phases.{refusal}
use Rattle.arz_rx.specs.Patterns.{PatternsView, Rose as PatternsRose}
use Rattle.arz_criteria.specs.Rules.{patterns_in}
use Rattle.arz_bundle.specs.declared.fault.LoadFault.{LoadFault}
use Rattle.arz_bundle.specs.declared.fault.LoadFault.TheVariants.{File, Refused, Pattern, Memory}
use Rattle.arz_bundle.specs.Overlays.{Listed, overlays_for, overlay_label}
use Rattle.arz_bundle.specs.Phases.{setup_told, IsDescribed, unbuilt_told, source_label, source_told, steps_told, size_told, replies_told}
use Rattle.arz_bundle.specs.Replies.{replies_of}
use Rattle.arz_bundle.specs.Setup.{description_path, path_of_source, bundle_of}

-- ---- one file

-- the most bytes that a file may have
abbrev pub file_limit : ℕ
file_limit = 4194304

-- the file of these bytes is small enough, and this is the tree of its JSON text
abbrev pub IsFile : List ℕ → Json → Type 0
IsFile bytes tree = (length bytes ≤ file_limit) × Reads bytes tree

-- the file of these bytes fails a rule of all files: it is too large, or no JSON text
abbrev pub NoFile : (label bytes : List ℕ) → Refusal → Type 0
NoFile label bytes r =
    ((file_limit < length bytes) × (r ≡ refusal label (1, [])))
    ⊎ ((length bytes ≤ file_limit) × ((tree : Json) → Reads bytes tree → ⊥) × (r ≡ refusal label (2, [])))

module _ {A : Type 0} where
  -- a refusal is told; else Next says what comes
  abbrev pub Tells : Option Refusal → (Result A LoadFault → Type 0) → Result A LoadFault → Type 0
  Tells (Some r) Next x = x ≡ Err (Refused r)
  Tells None Next x = Next x

  -- a rule of all files that the file of these bytes fails is told; else Next says what comes of its tree
  abbrev pub Judged : (label : List ℕ) → (Json → Result A LoadFault → Type 0) → List ℕ → Result A LoadFault → Type 0
  Judged label Next bytes x =
      ((tree : Json) × IsFile bytes tree × Next tree x)
      ⊎ ((r : Refusal) × NoFile label bytes r × (x ≡ Err (Refused r)))

  -- The file is read and judged, or a read of it failed in this call, or memory ran out.
  -- before, now: what the files show at the call's beginning and end
  abbrev pub Reading : (before now : FilesView) → (path label : List ℕ) → (Json → Result A LoadFault → Type 0) → Result A LoadFault → Type 0
  Reading before now path label Next x =
      ((bytes : List ℕ) × ReadsAs (before.told path) file_limit bytes × Judged label Next bytes x)
      ⊎ (Rose (before.faults path) (now.faults path) × (x ≡ Err (File path)))
      ⊎ (x ≡ Err Memory)

-- ---- overlays (Overlay 1.0.0)

module _ {A : Type 0} where
  -- an overlay document that is taken; or the first rule that it fails is told
  abbrev pub Taken : Result Document Refusal → (Document → Result A LoadFault → Type 0) → Result A LoadFault → Type 0
  Taken (Ok d) Next x = Next d x
  Taken (Err r) Next x = x ≡ Err (Refused r)

  -- An overlay is applied: it makes a tree, or an action is refused, or a pattern was too big.
  -- meant: what the overlay makes of the tree, where that is told; old, new: the patterns at the call's beginning and end
  abbrev pub Applied : (old new : PatternsView) → (meant : Option (Result Json Refusal)) → (Json → Result A LoadFault → Type 0) → Result A LoadFault → Type 0
  Applied old new meant Next x =
      ((tree : Json) × Says meant (Ok tree) × IsWithin 127 tree × Next tree x)
      ⊎ ((r : Refusal) × Says meant (Err r) × (x ≡ Err (Refused r)))
      ⊎ (PatternsRose old.too_big new.too_big × (x ≡ Err Pattern))

  module _ (before now : FilesView) (old new : PatternsView) where
    -- one overlay: its file, its rules, and its actions on the tree
    abbrev pub OneOverlay : Listed → (tree : Json) → (Json → Result A LoadFault → Type 0) → Result A LoadFault → Type 0
    OneOverlay o tree Next =
        Reading before now o.path (overlay_label o.index) (λ root. Taken (document (overlay_label o.index) root) (λ d. Applied old new (overlaid old.told d tree) Next))

    -- one after another, each on what the one before made
    abbrev pub Overlaid : List Listed → (tree : Json) → (Json → Result A LoadFault → Type 0) → Result A LoadFault → Type 0
    Overlaid [] tree Next x = Next tree x
    Overlaid (o ∷ os) tree Next x = OneOverlay o tree (λ made. Overlaid os made Next) x

    -- a document: its file, and then its overlays
    abbrev pub ReadingOverlaid : (path label : List ℕ) → List Listed → (Json → Result A LoadFault → Type 0) → Result A LoadFault → Type 0
    ReadingOverlaid path label os Next = Reading before now path label (λ tree. Overlaid os tree Next)

-- ---- the sources, one by one (Arazzo 1.0.1, 4.6.3)

abbrev pub source_name : (source : Json) → List ℕ
source_name source = text_at (codes "name") source

abbrev pub named : (source root : Json) → Named
named source root = record { name = source_name source; root = root }

module _ {A : Type 0} (before now : FilesView) (old new : PatternsView) (setup : Json) where
  -- one source: its file and overlays, and its rules; Next says what comes of its document
  abbrev pub OneSource : (source : Json) → (Named → Result A LoadFault → Type 0) → Result A LoadFault → Type 0
  OneSource source Next =
      ReadingOverlaid before now old new (path_of_source setup source) (source_label (source_name source)) (overlays_for (Some (source_name source)) setup)
      (λ root. Tells (source_told (source_label (source_name source)) root) (Next (named source root)))

  -- one after another; Next says what comes of them all
  abbrev pub FromSources : (sources : List Json) → (List Named → Result A LoadFault → Type 0) → Result A LoadFault → Type 0
  FromSources [] Next x = Next [] x
  FromSources (source ∷ sources) Next x = OneSource source (λ s. FromSources sources (λ ss. Next (s ∷ ss))) x

-- ---- the files, one by one, and their phases

-- all sources were read: the steps against them, and then the bundle as a whole
abbrev pub AfterSources : (setup description : Json) → List Named → Result Bundle LoadFault → Type 0
AfterSources setup description sources =
    Tells (steps_told setup description sources) (Tells (size_told (bundle_of setup description sources)) (λ x. x ≡ Ok (bundle_of setup description sources)))

-- a file of replies passes its phase
abbrev pub AfterReplies : Json → Result (List Reply) LoadFault → Type 0
AfterReplies tree = Tells (replies_told tree) (λ x. x ≡ Ok (replies_of tree))

-- the replies of the file at this path
abbrev pub Gives_replies : (before now : FilesView) → List ℕ → Result (List Reply) LoadFault → Type 0
Gives_replies before now path = Reading before now path (codes "replies") AfterReplies

module _ (before now : FilesView) (old new : PatternsView) where
  abbrev pub AfterBuilt : (setup description : Json) → Result Bundle LoadFault → Type 0
  AfterBuilt setup description = FromSources before now old new setup (items_at (codes "sourceDescriptions") description) (AfterSources setup description)

  -- the rules of the description and its criteria with those of what the setup names in it, and then what isn't built yet; or a pattern
  -- of a criterion was too big
  abbrev pub AfterDescription : (setup description : Json) → Result Bundle LoadFault → Type 0
  AfterDescription setup description x =
      ((told : Option Refusal) × IsDescribed old.told setup description told × Tells told (Tells (unbuilt_told description) (AfterBuilt setup description)) x)
      ⊎ (PatternsRose old.too_big new.too_big × (patterns_in description ≢ []) × (x ≡ Err Pattern))

  abbrev pub FromDescription : (setup : Json) → Result Bundle LoadFault → Type 0
  FromDescription setup = ReadingOverlaid before now old new (description_path setup) (codes "arazzo") (overlays_for None setup) (AfterDescription setup)

  abbrev pub AfterSetup : (setup : Json) → Result Bundle LoadFault → Type 0
  AfterSetup setup = Tells (setup_told setup) (FromDescription setup)

  -- the setup at this path, the description and its sources, in this order
  abbrev pub Loads : List ℕ → Result Bundle LoadFault → Type 0
  Loads path = Reading before now path (codes "setup") AfterSetup
