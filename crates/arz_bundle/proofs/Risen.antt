-- A fault that comes of files tells of a count that has risen.
use Rattle.std.proofs.Common.{◌≡◌, inl, inr, ℕ, List, [], ◌∷◌, codes, Option, Some, None, Result, Ok, Err, subst}
use Rattle.arz_json.specs.Look.{items_at}
use Rattle.arz_json.specs.declared.Json.{Json}
use Rattle.arz_json.specs.declared.Named.{Named}
use Rattle.arz_json.specs.declared.Refusal.{Refusal}
use Rattle.arz_overlay.specs.Documents.{Document, document}
use Rattle.arz_overlay.specs.Overlaid.{overlaid}
use Rattle.arz_rx.specs.Patterns.{PatternsView, Rose as PatternsRose}
use Rattle.arz_world.specs.Outside.{FilesView, Rose}
use Rattle.arz_world.specs.declared.Reply.{Reply}
use Rattle.arz_flow.specs.declared.bundle.Bundle.{Bundle}
use Rattle.arz_bundle.specs.declared.fault.LoadFault.{LoadFault}
use Rattle.arz_bundle.specs.declared.fault.LoadFault.TheVariants.{File, Refused, Pattern, Memory}
use Rattle.arz_bundle.specs.Loading.{Tells, Reading, Taken, Applied, Overlaid, ReadingOverlaid, source_name, named, FromSources, AfterSources, AfterBuilt, AfterDescription, FromDescription, AfterSetup, Loads, AfterReplies, Gives_replies}
use Rattle.arz_bundle.specs.Overlays.{Listed, overlays_for, overlay_label}
use Rattle.arz_bundle.specs.Phases.{setup_told, unbuilt_told, source_label, source_told, steps_told, size_told, replies_told}
use Rattle.arz_bundle.specs.Replies.{replies_of}
use Rattle.arz_bundle.specs.Setup.{description_path, path_of_source, bundle_of}

module _ (before now : FilesView) (old new : PatternsView) where
  abbrev pub Caused : LoadFault → Type 0
  Caused (File path) = Rose (before.faults path) (now.faults path)
  Caused (Refused r) = Unit {0}
  Caused Pattern = PatternsRose old.too_big new.too_big
  Caused Memory = Unit {0}

  -- so its fault has its cause, where there is one
  abbrev pub HasCause : {A : Type 0} → Result A LoadFault → Type 0
  HasCause x = (fault : LoadFault) → x ≡ Err fault → Caused fault

module _ {A : Type 0} (x : Result A LoadFault) where
  same-cause : (cause fault : LoadFault) → x ≡ Err cause → x ≡ Err fault → cause ≡ fault
  same-cause cause fault is is' = cc

module _ (before now : FilesView) (old new : PatternsView) {A : Type 0} (x : Result A LoadFault) where
  caused : (cause : LoadFault) → Caused before now old new cause → x ≡ Err cause → HasCause before now old new x
  caused cause c is fault is' = subst (Caused before now old new) (same-cause x cause fault is is') c

  tells-caused : (o : Option Refusal) (Next : Result A LoadFault → Type 0) → (Next x → HasCause before now old new x) → Tells o Next x → HasCause before now old new x
  tells-caused (Some r) Next w is = caused (Refused r) tt is
  tells-caused None Next w goes = w goes

  reading-caused : (path label : List ℕ) (Next : Json → Result A LoadFault → Type 0) → ((tree : Json) → Next tree x → HasCause before now old new x)
      → Reading before now path label Next x → HasCause before now old new x
  reading-caused path label Next w (inl (bytes, reads, inl (tree, file, goes))) = w tree goes
  reading-caused path label Next w (inl (bytes, reads, inr (r, none, is))) = caused (Refused r) tt is
  reading-caused path label Next w (inr (inl (rose, is))) = caused (File path) rose is
  reading-caused path label Next w (inr (inr is)) = caused Memory tt is

  taken-caused : (d : Result Document Refusal) (Next : Document → Result A LoadFault → Type 0) → ((d : Document) → Next d x → HasCause before now old new x)
      → Taken d Next x → HasCause before now old new x
  taken-caused (Ok d) Next w goes = w d goes
  taken-caused (Err r) Next w is = caused (Refused r) tt is

  applied-caused : (meant : Option (Result Json Refusal)) (Next : Json → Result A LoadFault → Type 0) → ((tree : Json) → Next tree x → HasCause before now old new x)
      → Applied old new meant Next x → HasCause before now old new x
  applied-caused meant Next w (inl (tree, says, within, goes)) = w tree goes
  applied-caused meant Next w (inr (inl (r, says, is))) = caused (Refused r) tt is
  applied-caused meant Next w (inr (inr (rose, is))) = caused Pattern rose is

  overlaid-caused : (os : List Listed) (tree : Json) (Next : Json → Result A LoadFault → Type 0) → ((made : Json) → Next made x → HasCause before now old new x)
      → Overlaid before now old new os tree Next x → HasCause before now old new x
  overlaid-caused [] tree Next w goes = w tree goes
  overlaid-caused (o ∷ os) tree Next w came =
      let label = overlay_label o.index in
      let Rest : Json → Result A LoadFault → Type 0 = λ made. Overlaid before now old new os made Next in
      let Then : Document → Result A LoadFault → Type 0 = λ d. Applied old new (overlaid old.told d tree) Rest in
      reading-caused o.path label (λ root. Taken (document label root) Then)
      (λ root read. taken-caused (document label root) Then
      (λ d goes. applied-caused (overlaid old.told d tree) Rest (λ made. overlaid-caused os made Next w) goes) read) came

  document-caused : (path label : List ℕ) (os : List Listed) (Next : Json → Result A LoadFault → Type 0) → ((made : Json) → Next made x → HasCause before now old new x)
      → ReadingOverlaid before now old new path label os Next x → HasCause before now old new x
  document-caused path label os Next w came =
      reading-caused path label (λ tree. Overlaid before now old new os tree Next) (λ tree. overlaid-caused os tree Next w) came

  sources-caused : (setup : Json) (described : List Json) (Next : List Named → Result A LoadFault → Type 0) → ((sources : List Named) → Next sources x → HasCause before now old new x)
      → FromSources before now old new setup described Next x → HasCause before now old new x
  sources-caused setup [] Next w goes = w [] goes
  sources-caused setup (source ∷ described) Next w came =
      let label = source_label (source_name source) in
      let Rest : Json → Result A LoadFault → Type 0 = λ root. FromSources before now old new setup described (λ sources. Next (named source root ∷ sources)) in
      document-caused (path_of_source setup source) label (overlays_for (Some (source_name source)) setup) (λ root. Tells (source_told label root) (Rest root))
      (λ root. tells-caused (source_told label root) (Rest root)
      (sources-caused setup described (λ sources. Next (named source root ∷ sources)) (λ sources. w (named source root ∷ sources)))) came

  -- what is given has no fault
  given-caused : (a : A) → x ≡ Ok a → HasCause before now old new x
  given-caused a is fault is' = absurd (cc)

module _ (before now : FilesView) (old new : PatternsView) (x : Result Bundle LoadFault) where
  after-caused : (setup description : Json) (sources : List Named) → AfterSources setup description sources x → HasCause before now old new x
  after-caused setup description sources came =
      tells-caused before now old new x (steps_told setup description sources) _
      (tells-caused before now old new x (size_told (bundle_of setup description sources)) _ (given-caused before now old new x (bundle_of setup description sources))) came

  built-caused : (setup description : Json) → AfterBuilt before now old new setup description x → HasCause before now old new x
  built-caused setup description came =
      sources-caused before now old new x setup (items_at (codes "sourceDescriptions") description) (AfterSources setup description) (after-caused setup description) came

  described-caused : (setup description : Json) → AfterDescription before now old new setup description x → HasCause before now old new x
  described-caused setup description (inl (told, described, came)) =
      let Then = AfterBuilt before now old new setup description in
      tells-caused before now old new x told (Tells (unbuilt_told description) Then)
      (tells-caused before now old new x (unbuilt_told description) Then (built-caused setup description)) came
  described-caused setup description (inr (rose, asks, is)) = caused before now old new x Pattern rose is

  description-caused : (setup : Json) → FromDescription before now old new setup x → HasCause before now old new x
  description-caused setup came =
      document-caused before now old new x (description_path setup) (codes "arazzo") (overlays_for None setup) (AfterDescription before now old new setup) (described-caused setup) came

  pub loads-caused : (path : List ℕ) → Loads before now old new path x → HasCause before now old new x
  loads-caused path came =
      reading-caused before now old new x path (codes "setup") (AfterSetup before now old new)
      (λ tree. tells-caused before now old new x (setup_told tree) (FromDescription before now old new tree) (description-caused tree)) came

pub replies-caused : (before now : FilesView) (old new : PatternsView) (x : Result (List Reply) LoadFault) (path : List ℕ) → Gives_replies before now path x → HasCause before now old new x
replies-caused before now old new x path came =
    reading-caused before now old new x path (codes "replies") AfterReplies
    (λ tree. tells-caused before now old new x (replies_told tree) _ (given-caused before now old new x (replies_of tree))) came
