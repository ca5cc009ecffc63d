-- Loading comes to something, and what is loaded is valid.
use Rattle.std.proofs.Common.{◌≡◌, ◌≢◌, ◌⊎◌, inl, inr, ◌≤◌, ℕ, List, [], ◌∷◌, length, take, codes, Bool, true, false, Option, None, Some, Result, Ok, Err, All, refl, sym, ◌∙◌, subst, ◌+◌}
use Rattle.std.proofs.lemmas.Bool.{cases_lt}
use Rattle.std.proofs.lemmas.List.Elements.{All-nil, All-cons}
use Rattle.std.proofs.lemmas.Str.{IsUtf8-from_is_utf8, is_utf8-from_IsUtf8}
use Rattle.std.specs.Str.{IsUtf8, is_utf8}
use Rattle.serde_json.specs.Data.{Data}
use Rattle.serde_json.specs.Read.{read}
use Rattle.arz_json.specs.Look.{items_at}
use Rattle.arz_json.specs.Reading.{Reads, tree_of}
use Rattle.arz_json.specs.Tree.{IsWithin, has_form}
use Rattle.arz_json.specs.declared.Json.{Json}
use Rattle.arz_json.specs.declared.Named.{Named}
use Rattle.arz_json.specs.declared.Refusal.{Refusal}
use Rattle.arz_json.proofs.Forms.{IsWithin-Reads}
use Rattle.arz_overlay.proofs.Overlays.{overlaid-within}
use Rattle.arz_overlay.specs.Documents.{Document, document, rules as overlay_rules}
use Rattle.arz_overlay.specs.Overlaid.{Patterned, overlaid}
use Rattle.arz_rules.specs.Phases.{Failure, refusal, first_failure, told_or}
use Rattle.arz_rx.specs.Patterns.{PatternsView}
use Rattle.arz_world.specs.Outside.{FilesView, ReadsAs, Told}
use Rattle.arz_flow.specs.declared.bundle.Bundle.{Bundle}
use Rattle.arz_flow.specs.Valid.{IsValid}
use Rattle.arz_bundle.specs.declared.fault.LoadFault.{LoadFault}
use Rattle.arz_bundle.specs.declared.fault.LoadFault.TheVariants.{File, Refused, Memory}
use Rattle.arz_bundle.specs.Laws.{MissingFail, LoadsSome, GivesSome, LoadsValid, GivesStatuses}
use Rattle.arz_bundle.specs.Loading.{file_limit, IsFile, NoFile, Tells, Judged, Reading, Taken, Applied, Overlaid, ReadingOverlaid, source_name, named, FromSources, AfterSources, AfterBuilt, AfterDescription, FromDescription, AfterSetup, AfterReplies}
use Rattle.arz_criteria.proofs.Agreed.{readings_are_told}
use Rattle.arz_doc.proofs.Numbered.{some_test}
use Rattle.arz_bundle.specs.Overlays.{Listed, overlays_for, overlay_label}
use Rattle.arz_bundle.specs.Phases.{setup_told, description_told, IsDescribed, unbuilt_told, source_label, source_told, steps_told, size_told, replies_told}
use Rattle.arz_bundle.specs.Replies.{HasStatus, replies_of}
use Rattle.arz_bundle.specs.Setup.{description_path, path_of_source, bundle_of}
use Rattle.arz_bundle.proofs.ValidBundles.{Nests, valid-bundle, reply-items, statuses}

-- ---- whether bytes are a file with a tree

abbrev Text : List ℕ → Type 0
Text bytes = ((tree : Json) × Reads bytes tree) ⊎ ((tree : Json) → Reads bytes tree → ⊥)

none-read : (d : Data) → None ≡ Some d → ⊥
none-read d x = cc

true-or-false : true ≡ false → ⊥
true-or-false x = cc

read-or-not : (bytes : List ℕ) → IsUtf8 bytes → (o : Option Data) → read bytes ≡ o → Text bytes
read-or-not bytes text None e = inr (λ tree reads. none-read reads.1 (sym e ∙ reads.2))
read-or-not bytes text (Some d) e = inl (tree_of d, (text, d, e, refl))

text-or-not : (bytes : List ℕ) → (b : Bool) → is_utf8 bytes ≡ b → Text bytes
text-or-not bytes true e = read-or-not bytes (IsUtf8-from_is_utf8 bytes e) (read bytes) refl
text-or-not bytes false e = inr (λ tree reads. true-or-false (sym (is_utf8-from_IsUtf8 bytes reads.0) ∙ e))

abbrev Tree : (label bytes : List ℕ) → Type 0
Tree label bytes = ((tree : Json) × IsFile bytes tree) ⊎ ((r : Refusal) × NoFile label bytes r)

by-text : (label bytes : List ℕ) → length bytes ≤ file_limit → Text bytes → Tree label bytes
by-text label bytes small (inl (tree, reads)) = inl (tree, (small, reads))
by-text label bytes small (inr none) = inr (refusal label (2, []), inr (small, none, refl))

tree-or-not : (label bytes : List ℕ) → Tree label bytes
tree-or-not label bytes = elim (cases_lt file_limit (length bytes)) [
  | inl over ↦ inr (refusal label (1, []), inl (over, refl))
  | inr small ↦ by-text label bytes small (text-or-not bytes (is_utf8 bytes) refl)
]

-- ---- something else than want of memory

abbrev pub IsSome : {A : Type 0} → (Result A LoadFault → Type 0) → Type 0
IsSome {A} Came = (x : Result A LoadFault) × Came x × (x ≢ Err Memory)

abbrev IsNoMemory : {A : Type 0} → Result A LoadFault → Type 0
IsNoMemory {A} x = x ≢ Err Memory

module _ {A : Type 0} where
  refused-some : (r : Refusal) → IsNoMemory {A = A} (Err (Refused r))
  refused-some r e = cc

  failed-some : (path : List ℕ) → IsNoMemory {A = A} (Err (File path))
  failed-some path e = cc

  ok-some : (a : A) → IsNoMemory {A = A} (Ok a)
  ok-some a e = cc

  tells-some : (o : Option Refusal) (Next : Result A LoadFault → Type 0) → IsSome Next → IsSome (Tells o Next)
  tells-some (Some r) Next some = (Err (Refused r), refl, refused-some r)
  tells-some None Next some = some

module _ {A : Type 0} (label : List ℕ) (Next : Json → Result A LoadFault → Type 0) (some : (tree : Json) → IsWithin 127 tree → IsSome (Next tree)) where
  judged-by : (bytes : List ℕ) → Tree label bytes → IsSome (Judged label Next bytes)
  judged-by bytes (inl (tree, file)) =
      let x = some tree (IsWithin-Reads bytes tree file.1) in
      (x.0, inl (tree, file, x.1), x.2)
  judged-by bytes (inr (r, none)) = (Err (Refused r), inr (r, none, refl), refused-some r)

  by-told : (before now : FilesView) (path : List ℕ) → MissingFail before now → (t : Told) → before.told path ≡ t → IsSome (Reading before now path label Next)
  by-told before now path missing None e =
      let x = judged-by [] (tree-or-not label []) in (x.0, inl ([], subst (λ t. ReadsAs t file_limit []) (sym e) tt, x.1), x.2)
  by-told before now path missing (Some None) e = (Err (File path), inr (inl (missing path e, refl)), failed-some path)
  by-told before now path missing (Some (Some file)) e =
      let bytes = take (file_limit + 1) file in
      let x = judged-by bytes (tree-or-not label bytes) in
      (x.0, inl (bytes, subst (λ t. ReadsAs t file_limit bytes) (sym e) refl, x.1), x.2)

  reading-some : (before now : FilesView) (path : List ℕ) → MissingFail before now → IsSome (Reading before now path label Next)
  reading-some before now path missing = by-told before now path missing (before.told path) refl

-- ---- overlays

-- an overlay keeps a tree within what is read
abbrev pub KeepsWithin : Type 0
KeepsWithin = (told : Patterned) (d : Document) (root j : Json) → has_form d.tree ≡ true → IsWithin 127 root → overlaid told d root ≡ Some (Ok j) → IsWithin 127 j

-- a document that is taken is the tree that was read
taken : (label : List ℕ) (o : Option Failure) (a d : Document) → told_or label o (Ok a) ≡ Ok d → a ≡ d
taken label None a d is = cc
taken label (Some f) a d is = absurd (cc)

taken-form : (label : List ℕ) (root : Json) (d : Document) → IsWithin 127 root → document label root ≡ Ok d → has_form d.tree ≡ true
taken-form label root d within is =
    subst (λ (t : Document). has_form t.tree ≡ true) (taken label (first_failure (overlay_rules root)) (record { tree = root; label = label }) d is) within.form

taken-some : {A : Type 0} (r : Result Document Refusal) (Next : Document → Result A LoadFault → Type 0) → ((d : Document) → r ≡ Ok d → IsSome (Next d)) → IsSome (Taken r Next)
taken-some (Ok d) Next some = some d refl
taken-some (Err r) Next some = (Err (Refused r), refl, refused-some r)

module _ (keeps : KeepsWithin) (old new : PatternsView) where
  module _ {A : Type 0} (Next : Json → Result A LoadFault → Type 0) (some : (made : Json) → IsWithin 127 made → IsSome (Next made)) where
    applied-some : (d : Document) (tree : Json) → has_form d.tree ≡ true → IsWithin 127 tree → (meant : Option (Result Json Refusal)) → overlaid old.told d tree ≡ meant → IsSome (Applied old new meant Next)
    applied-some d tree form within None is = let x = some tree within in (x.0, inl (tree, tt, within, x.1), x.2)
    applied-some d tree form within (Some (Ok j)) is =
        let made-within = keeps old.told d tree j form within is in
        let x = some j made-within in
        (x.0, inl (j, refl, made-within, x.1), x.2)
    applied-some d tree form within (Some (Err r)) is = (Err (Refused r), inr (inl (r, refl, refl)), refused-some r)

  module _ (before now : FilesView) (missing : MissingFail before now) where
    overlaid-some : {A : Type 0} (Next : Json → Result A LoadFault → Type 0) → ((made : Json) → IsWithin 127 made → IsSome (Next made))
        → (os : List Listed) (tree : Json) → IsWithin 127 tree → IsSome (Overlaid before now old new os tree Next)
    overlaid-some Next some [] tree within = some tree within
    overlaid-some {A} Next some (o ∷ os) tree within =
        let label = overlay_label o.index in
        let Rest : Json → Result A LoadFault → Type 0 = λ made. Overlaid before now old new os made Next in
        let Then : Document → Result A LoadFault → Type 0 = λ d. Applied old new (overlaid old.told d tree) Rest in
        reading-some label (λ root. Taken (document label root) Then)
        (λ root root-within. taken-some (document label root) Then
        (λ d is. applied-some Rest (overlaid-some Next some os) d tree (taken-form label root d root-within is) within (overlaid old.told d tree) refl)) before now o.path missing

    document-some : {A : Type 0} (path label : List ℕ) (os : List Listed) (Next : Json → Result A LoadFault → Type 0) → ((made : Json) → IsWithin 127 made → IsSome (Next made))
        → IsSome (ReadingOverlaid before now old new path label os Next)
    document-some path label os Next some = reading-some label (λ tree. Overlaid before now old new os tree Next) (overlaid-some Next some os) before now path missing

    sources-some : {A : Type 0} (setup : Json) (described : List Json) (Next : List Named → Result A LoadFault → Type 0) → ((sources : List Named) → IsSome (Next sources))
        → IsSome (FromSources before now old new setup described Next)
    sources-some setup [] Next some = some []
    sources-some {A} setup (source ∷ described) Next some =
        let label = source_label (source_name source) in
        let Rest : Json → Result A LoadFault → Type 0 = λ root. FromSources before now old new setup described (λ sources. Next (named source root ∷ sources)) in
        document-some (path_of_source setup source) label (overlays_for (Some (source_name source)) setup) (λ root. Tells (source_told label root) (Rest root))
        (λ root within. tells-some (source_told label root) (Rest root)
        (sources-some setup described (λ sources. Next (named source root ∷ sources)) (λ sources. some (named source root ∷ sources))))

    after-some : (setup description : Json) (sources : List Named) → IsSome (AfterSources setup description sources)
    after-some setup description sources =
        let bundle = bundle_of setup description sources in
        let Made : Result Bundle LoadFault → Type 0 = λ x. x ≡ Ok bundle in
        tells-some (steps_told setup description sources) (Tells (size_told bundle) Made) (tells-some (size_told bundle) Made (Ok bundle, refl, ok-some bundle))

    built-some : (setup description : Json) → IsSome (AfterBuilt before now old new setup description)
    built-some setup description = sources-some setup (items_at (codes "sourceDescriptions") description) (AfterSources setup description) (after-some setup description)

    described-some : (setup description : Json) → IsSome (AfterDescription before now old new setup description)
    described-some setup description =
        let test = some_test description in
        let readings = readings_are_told old.told description in
        let told = description_told test.0 readings.0 setup description in
        let Then = AfterBuilt before now old new setup description in
        let some = tells-some told (Tells (unbuilt_told description) Then) (tells-some (unbuilt_told description) Then (built-some setup description)) in
        (some.0, inl (told, (test.0, test.1, readings.0, readings.1, refl), some.1), some.2)

    description-some : (setup : Json) → IsSome (FromDescription before now old new setup)
    description-some setup =
        document-some (description_path setup) (codes "arazzo") (overlays_for None setup) (AfterDescription before now old new setup) (λ description within. described-some setup description)

loads_some_by : KeepsWithin → LoadsSome
loads_some_by keeps before now old new missing path =
    reading-some (codes "setup") (AfterSetup before now old new)
    (λ tree within. tells-some (setup_told tree) (FromDescription before now old new tree) (description-some keeps old new before now missing tree)) before now path missing

pub loads_some : LoadsSome
loads_some = loads_some_by (λ told d root j form within is. overlaid-within told d root j within form is)

pub gives_some : GivesSome
gives_some before now missing path =
    reading-some (codes "replies") AfterReplies
    (λ tree within. tells-some (replies_told tree) (λ x. x ≡ Ok (replies_of tree)) (Ok (replies_of tree), refl, ok-some (replies_of tree))) before now path missing

-- ---- what is loaded

abbrev given : {A : Type 0} → A → Result A LoadFault
given a = Ok a

same-ok : {A : Type 0} (a b : A) → given a ≡ given b → a ≡ b
same-ok a b e = cc

-- where something is given, no phase tells a refusal
tells-gave : {A : Type 0} (a : A) (P : Type 0) (o : Option Refusal) (Next : Result A LoadFault → Type 0) → Tells o Next (Ok a) → (o ≡ None → Next (Ok a) → P) → P
tells-gave a P None Next goes then_ = then_ refl goes
tells-gave a P (Some r) Next is then_ = absurd (cc)

-- what follows a file, where something is given
module _ {A : Type 0} (before now : FilesView) (path label : List ℕ) (Next : Json → Result A LoadFault → Type 0) (a : A) (P : Type 0)
    (goes : (tree : Json) → IsWithin 127 tree → Next tree (Ok a) → P) where
  reading-gave : Reading before now path label Next (Ok a) → P
  reading-gave (inl (bytes, reads, inl (tree, file, came))) = goes tree (IsWithin-Reads bytes tree file.1) came
  reading-gave (inl (bytes, reads, inr (r, none, is))) = absurd (cc)
  reading-gave (inr (inl (rose, is))) = absurd (cc)
  reading-gave (inr (inr is)) = absurd (cc)

taken-gave : {A : Type 0} (a : A) (P : Type 0) (r : Result Document Refusal) (Next : Document → Result A LoadFault → Type 0) → ((d : Document) → Next d (Ok a) → P) → Taken r Next (Ok a) → P
taken-gave a P (Ok d) Next goes came = goes d came
taken-gave a P (Err r) Next goes is = absurd (cc)

applied-gave : {A : Type 0} (a : A) (P : Type 0) (old new : PatternsView) (meant : Option (Result Json Refusal)) (Next : Json → Result A LoadFault → Type 0)
    → ((made : Json) → IsWithin 127 made → Next made (Ok a) → P) → Applied old new meant Next (Ok a) → P
applied-gave a P old new meant Next goes (inl (tree, says, within, came)) = goes tree within came
applied-gave a P old new meant Next goes (inr (inl (r, says, is))) = absurd (cc)
applied-gave a P old new meant Next goes (inr (inr (rose, is))) = absurd (cc)

module _ (before now : FilesView) (old new : PatternsView) where
  module _ {A : Type 0} (a : A) (P : Type 0) (Next : Json → Result A LoadFault → Type 0) (goes : (made : Json) → IsWithin 127 made → Next made (Ok a) → P) where
    overlaid-gave : (os : List Listed) (tree : Json) → IsWithin 127 tree → Overlaid before now old new os tree Next (Ok a) → P
    overlaid-gave [] tree within came = goes tree within came
    overlaid-gave (o ∷ os) tree within came =
        let label = overlay_label o.index in
        let Rest : Json → Result A LoadFault → Type 0 = λ made. Overlaid before now old new os made Next in
        let Then : Document → Result A LoadFault → Type 0 = λ d. Applied old new (overlaid old.told d tree) Rest in
        reading-gave before now o.path label (λ root. Taken (document label root) Then) a P
        (λ root root-within read. taken-gave a P (document label root) Then
        (λ d applied. applied-gave a P old new (overlaid old.told d tree) Rest (overlaid-gave os) applied) read) came

    document-gave : (path label : List ℕ) (os : List Listed) → ReadingOverlaid before now old new path label os Next (Ok a) → P
    document-gave path label os came = reading-gave before now path label (λ tree. Overlaid before now old new os tree Next) a P (overlaid-gave os) came

  -- what follows the sources, where something is given
  sources-gave : {A : Type 0} (a : A) (P : Type 0) (setup : Json) (described : List Json) (Next : List Named → Result A LoadFault → Type 0)
      → ((sources : List Named) → All Nests sources → Next sources (Ok a) → P) → FromSources before now old new setup described Next (Ok a) → P
  sources-gave a P setup [] Next goes came = goes [] (All-nil Nests) came
  sources-gave {A} a P setup (source ∷ described) Next goes came =
      let label = source_label (source_name source) in
      let Rest : Json → Result A LoadFault → Type 0 = λ root. FromSources before now old new setup described (λ sources. Next (named source root ∷ sources)) in
      document-gave a P (λ root. Tells (source_told label root) (Rest root))
      (λ root within tells. tells-gave a P (source_told label root) (Rest root) tells
      (λ none rest. sources-gave a P setup described (λ sources. Next (named source root ∷ sources))
      (λ sources each. goes (named source root ∷ sources) (All-cons Nests (named source root) sources within each)) rest))
      (path_of_source setup source) label (overlays_for (Some (source_name source)) setup) came

  module _ (b : Bundle) where
    built-valid : (setup description : Json) → IsDescribed old.told setup description None → IsWithin 127 setup → IsWithin 127 description
        → AfterBuilt before now old new setup description (Ok b) → IsValid b
    built-valid setup description described setup-within description-within came =
        sources-gave b (IsValid b) setup (items_at (codes "sourceDescriptions") description) (AfterSources setup description)
        (λ sources within goes. tells-gave b (IsValid b) (steps_told setup description sources) _ goes
        (λ none later. tells-gave b (IsValid b) (size_told (bundle_of setup description sources)) _ later
        (λ fits is. subst IsValid (sym (same-ok b (bundle_of setup description sources) is)) (valid-bundle old.told setup description sources described setup-within description-within within)))) came

    described-valid : (setup description : Json) → IsWithin 127 setup → IsWithin 127 description → AfterDescription before now old new setup description (Ok b) → IsValid b
    described-valid setup description within description-within (inl (told, described, tells)) =
        tells-gave b (IsValid b) told _ tells
        (λ none later. tells-gave b (IsValid b) (unbuilt_told description) (AfterBuilt before now old new setup description) later
        (λ built goes. built-valid setup description (subst (λ o. IsDescribed old.told setup description o) none described) within description-within goes))
    described-valid setup description within description-within (inr (rose, asks, is)) = absurd (cc)

    description-valid : (setup : Json) → IsWithin 127 setup → FromDescription before now old new setup (Ok b) → IsValid b
    description-valid setup within came =
        document-gave b (IsValid b) (AfterDescription before now old new setup)
        (λ tree tree-within goes. described-valid setup tree within tree-within goes) (description_path setup) (codes "arazzo") (overlays_for None setup) came

pub loads_valid : LoadsValid
loads_valid before now old new path b came =
    reading-gave before now path (codes "setup") (AfterSetup before now old new) b (IsValid b)
    (λ tree within tells. tells-gave b (IsValid b) (setup_told tree) (FromDescription before now old new tree) tells (λ none goes. description-valid before now old new b tree within goes)) came

pub gives_statuses : GivesStatuses
gives_statuses before now path replies came =
    reading-gave before now path (codes "replies") AfterReplies replies (All HasStatus replies)
    (λ tree within tells. tells-gave replies (All HasStatus replies) (replies_told tree) _ tells
    (λ none is. subst (All HasStatus) (sym (same-ok replies (replies_of tree) is)) (statuses _ (reply-items tree none within)))) came
