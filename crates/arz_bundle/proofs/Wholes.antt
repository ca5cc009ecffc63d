-- What comes of a part of a call comes of the whole call.
use Rattle.std.proofs.Common.{◌≡◌, inl, inr, ◌≤◌, ℕ, List, [], ◌∷◌, codes, Option, Some, None, Result, Ok, Err, refl, ap, subst, arith}
use Rattle.arz_json.specs.Look.{items_at}
use Rattle.arz_json.specs.declared.Json.{Json}
use Rattle.arz_json.specs.declared.Named.{Named}
use Rattle.arz_json.specs.declared.Refusal.{Refusal}
use Rattle.arz_overlay.specs.Documents.{Document, document}
use Rattle.arz_overlay.specs.Overlaid.{Patterned, overlaid}
use Rattle.arz_path.specs.Results.{Asked}
use Rattle.arz_rules.specs.declared.phases.RuleFault.{RuleFault}
use Rattle.arz_rules.specs.declared.phases.RuleFault.TheVariants as rule
use Rattle.arz_rx.specs.Patterns.{PatternsView, Rose as PatternsRose}
use Rattle.arz_world.specs.Outside.{FilesView, ReadsAs, Rose, Told}
use Rattle.arz_world.specs.declared.Reply.{Reply}
use Rattle.arz_flow.specs.declared.bundle.Bundle.{Bundle}
use Rattle.arz_bundle.specs.declared.fault.LoadFault.{LoadFault}
use Rattle.arz_bundle.specs.declared.fault.LoadFault.TheVariants.{File, Refused, Pattern, Memory}
use Rattle.arz_bundle.specs.FileTree.{Checks, Given, GivenSource, GivenSources, load_fault}
use Rattle.arz_bundle.specs.Loading.{file_limit, Tells, Judged, Reading, Taken, Applied, OneOverlay, Overlaid, ReadingOverlaid, source_name, named, OneSource, FromSources, AfterSources, AfterBuilt, AfterDescription, FromDescription, AfterSetup, Loads, AfterReplies, Gives_replies}
use Rattle.arz_bundle.specs.Overlays.{Listed, overlays_for, overlay_label}
use Rattle.arz_bundle.specs.Phases.{setup_told, IsDescribed, unbuilt_told, source_label, source_told}
use Rattle.arz_bundle.specs.Setup.{description_path, path_of_source}

-- ---- parts of a call

-- nothing of what is told has changed, and no count has fallen
pub record Later (before after : FilesView) : Type 0 where
  pub told : after.told ≡ before.told
  pub counts : (path : List ℕ) → before.faults path ≤ after.faults path

-- nothing was read, and nothing was asked
pub same-files : (now : FilesView) → Later now now
same-files now = record { told = refl; counts = λ path. omega arith }

pub same-patterns : (now : PatternsView) → Asked now now
same-patterns now = record { told = refl; count = omega arith }

-- a call and its part: the same is told, and a count that has risen in the part has risen in the call
pub record FilesPart (before now first last : FilesView) : Type 0 where
  pub told : before.told ≡ first.told
  pub rose : (path : List ℕ) → Rose (before.faults path) (now.faults path) → Rose (first.faults path) (last.faults path)

pub record PatternsPart (old new first last : PatternsView) : Type 0 where
  pub told : old.told ≡ first.told
  pub rose : PatternsRose old.too_big new.too_big → PatternsRose first.too_big last.too_big

rose-earlier : (a b now : ℕ) → a ≤ b → Rose b now → Rose a now
rose-earlier a b now le rose = omega arith

rose-later : (a now after : ℕ) → now ≤ after → Rose a now → Rose a after
rose-later a now after le rose = omega arith

pub files-end : (first before now : FilesView) → Later first before → FilesPart before now first now
files-end first before now later = record { told = later.told; rose = λ path rose. rose-earlier _ _ _ (later.counts path) rose }

pub files-begin : (before now last : FilesView) → Later now last → FilesPart before now before last
files-begin before now last later = record { told = refl; rose = λ path rose. rose-later _ _ _ (later.counts path) rose }

pub files-whole : (before now : FilesView) → FilesPart before now before now
files-whole before now = record { told = refl; rose = λ path rose. rose }

pub patterns-end : (first old new : PatternsView) → Asked first old → PatternsPart old new first new
patterns-end first old new asked = record { told = asked.told; rose = λ rose. rose-earlier first.too_big old.too_big new.too_big asked.count rose }

pub patterns-begin : (old new last : PatternsView) → Asked new last → PatternsPart old new old last
patterns-begin old new last asked = record { told = refl; rose = λ rose. rose-later old.too_big new.too_big last.too_big asked.count rose }

pub patterns-whole : (old new : PatternsView) → PatternsPart old new old new
patterns-whole old new = record { told = refl; rose = λ rose. rose }

-- ---- what is wider

-- a fault is handed on as it is
abbrev pub HandsOn : {A B : Type 0} → Result A LoadFault → Result B LoadFault → Type 0
HandsOn {A} {B} x y = (fault : LoadFault) → x ≡ Err fault → y ≡ Err fault

module _ {A B : Type 0} (x : Result A LoadFault) (y : Result B LoadFault) (on : HandsOn x y) where
  pub tells-wider : (o : Option Refusal) (Next : Result A LoadFault → Type 0) (Wider : Result B LoadFault → Type 0) → (Next x → Wider y) → Tells o Next x → Tells o Wider y
  tells-wider (Some r) Next Wider w t = on (Refused r) t
  tells-wider None Next Wider w t = w t

  taken-wider : (d : Result Document Refusal) (Next : Document → Result A LoadFault → Type 0) (Wider : Document → Result B LoadFault → Type 0)
      → ((d : Document) → Next d x → Wider d y) → Taken d Next x → Taken d Wider y
  taken-wider (Ok d) Next Wider w t = w d t
  taken-wider (Err r) Next Wider w t = on (Refused r) t

  module _ (before now first last : FilesView) (part : FilesPart before now first last) where
    module _ (path label : List ℕ) (Next : Json → Result A LoadFault → Type 0) (Wider : Json → Result B LoadFault → Type 0) (w : (tree : Json) → Next tree x → Wider tree y) where
      judged-wider : (bytes : List ℕ) → Judged label Next bytes x → Judged label Wider bytes y
      judged-wider bytes (inl (tree, file, goes)) = inl (tree, file, w tree goes)
      judged-wider bytes (inr (r, none, is)) = inr (r, none, on (Refused r) is)

      pub reading-wider : Reading before now path label Next x → Reading first last path label Wider y
      reading-wider (inl (bytes, reads, judged)) =
          let P : (List ℕ → Told) → Type 0 = λ told. ReadsAs (told path) file_limit bytes in
          inl (bytes, subst P part.told reads, judged-wider bytes judged)
      reading-wider (inr (inl (rose, is))) = inr (inl (part.rose path rose, on (File path) is))
      reading-wider (inr (inr is)) = inr (inr (on Memory is))

    module _ (old new one two : PatternsView) (asked : PatternsPart old new one two) where
      applied-wider : (meant : Option (Result Json Refusal)) (Next : Json → Result A LoadFault → Type 0) (Wider : Json → Result B LoadFault → Type 0)
          → ((tree : Json) → Next tree x → Wider tree y) → Applied old new meant Next x → Applied one two meant Wider y
      applied-wider meant Next Wider w (inl (tree, says, within, goes)) = inl (tree, says, within, w tree goes)
      applied-wider meant Next Wider w (inr (inl (r, says, is))) = inr (inl (r, says, on (Refused r) is))
      applied-wider meant Next Wider w (inr (inr (rose, is))) = inr (inr (asked.rose rose, on Pattern is))

      pub overlay-wider : (o : Listed) (tree : Json) (Next : Json → Result A LoadFault → Type 0) (Wider : Json → Result B LoadFault → Type 0)
          → ((made : Json) → Next made x → Wider made y) → OneOverlay before now old new o tree Next x → OneOverlay first last one two o tree Wider y
      overlay-wider o tree Next Wider w came =
          let label = overlay_label o.index in
          let Part : Document → Result A LoadFault → Type 0 = λ d. Applied old new (overlaid old.told d tree) Next in
          let Whole : Patterned → Document → Result B LoadFault → Type 0 = λ told d. Applied one two (overlaid told d tree) Wider in
          reading-wider o.path label (λ root. Taken (document label root) Part) (λ root. Taken (document label root) (Whole one.told))
          (λ root read. taken-wider (document label root) Part (Whole one.told)
          (λ d goes. subst (λ told. Whole told d y) asked.told (applied-wider (overlaid old.told d tree) Next Wider w goes)) read) came

      pub overlaid-wider : (os : List Listed) (tree : Json) (Next : Json → Result A LoadFault → Type 0) (Wider : Json → Result B LoadFault → Type 0)
          → ((made : Json) → Next made x → Wider made y) → Overlaid before now old new os tree Next x → Overlaid first last one two os tree Wider y
      overlaid-wider [] tree Next Wider w goes = w tree goes
      overlaid-wider (o ∷ os) tree Next Wider w came =
          overlay-wider o tree (λ made. Overlaid before now old new os made Next) (λ made. Overlaid first last one two os made Wider)
          (λ made. overlaid-wider os made Next Wider w) came

      pub document-wider : (path label : List ℕ) (os : List Listed) (Next : Json → Result A LoadFault → Type 0) (Wider : Json → Result B LoadFault → Type 0)
          → ((made : Json) → Next made x → Wider made y) → ReadingOverlaid before now old new path label os Next x → ReadingOverlaid first last one two path label os Wider y
      document-wider path label os Next Wider w came =
          reading-wider path label (λ tree. Overlaid before now old new os tree Next) (λ tree. Overlaid first last one two os tree Wider)
          (λ tree. overlaid-wider os tree Next Wider w) came

      pub source-wider : (setup source : Json) (Next : Named → Result A LoadFault → Type 0) (Wider : Named → Result B LoadFault → Type 0)
          → ((s : Named) → Next s x → Wider s y) → OneSource before now old new setup source Next x → OneSource first last one two setup source Wider y
      source-wider setup source Next Wider w came =
          let label = source_label (source_name source) in
          document-wider (path_of_source setup source) label (overlays_for (Some (source_name source)) setup)
          (λ root. Tells (source_told label root) (Next (named source root))) (λ root. Tells (source_told label root) (Wider (named source root)))
          (λ root. tells-wider (source_told label root) (Next (named source root)) (Wider (named source root)) (w (named source root))) came

      pub sources-wider : (setup : Json) (sources : List Json) (Next : List Named → Result A LoadFault → Type 0) (Wider : List Named → Result B LoadFault → Type 0)
          → ((ss : List Named) → Next ss x → Wider ss y) → FromSources before now old new setup sources Next x → FromSources first last one two setup sources Wider y
      sources-wider setup [] Next Wider w goes = w [] goes
      sources-wider setup (source ∷ sources) Next Wider w came =
          source-wider setup source (λ s. FromSources before now old new setup sources (λ ss. Next (s ∷ ss))) (λ s. FromSources first last one two setup sources (λ ss. Wider (s ∷ ss)))
          (λ s. sources-wider setup sources (λ ss. Next (s ∷ ss)) (λ ss. Wider (s ∷ ss)) (λ ss. w (s ∷ ss))) came

-- ---- what holds of a part holds of the whole

pub as-it-is : {A : Type 0} (x : Result A LoadFault) → HandsOn x x
as-it-is x fault is = is

module _ (before now first last : FilesView) (part : FilesPart before now first last) where
  pub replies-whole : (path : List ℕ) (x : Result (List Reply) LoadFault) → Gives_replies before now path x → Gives_replies first last path x
  replies-whole path x came = reading-wider x x (as-it-is x) before now first last part path _ AfterReplies AfterReplies (λ tree goes. goes) came

  module _ (old new one two : PatternsView) (asked : PatternsPart old new one two) (x : Result Bundle LoadFault) where
    pub built-whole : (setup description : Json) → AfterBuilt before now old new setup description x → AfterBuilt first last one two setup description x
    built-whole setup description came =
        sources-wider x x (as-it-is x) before now first last part old new one two asked setup (items_at (codes "sourceDescriptions") description) (AfterSources setup description) (AfterSources setup description) (λ ss goes. goes) came

    pub described-whole : (setup description : Json) → AfterDescription before now old new setup description x → AfterDescription first last one two setup description x
    described-whole setup description (inl (told, described, came)) =
        let Part = AfterBuilt before now old new setup description in
        let Whole = AfterBuilt first last one two setup description in
        let unbuilt = unbuilt_told description in inl (
          told,
          subst (λ patterned. IsDescribed patterned setup description told) asked.told described,
          tells-wider x x (as-it-is x) told (Tells unbuilt Part) (Tells unbuilt Whole)
              (tells-wider x x (as-it-is x) unbuilt Part Whole (built-whole setup description)) came,
        )
    described-whole setup description (inr (rose, asks, is)) = inr (asked.rose rose, asks, is)

    pub description-whole : (setup : Json) → FromDescription before now old new setup x → FromDescription first last one two setup x
    description-whole setup came =
        document-wider x x (as-it-is x) before now first last part old new one two asked (description_path setup) _
        (overlays_for None setup) (AfterDescription before now old new setup) (AfterDescription first last one two setup) (λ made. described-whole setup made) came

    pub loads-whole : (path : List ℕ) → Loads before now old new path x → Loads first last one two path x
    loads-whole path came =
        reading-wider x x (as-it-is x) before now first last part path _ (AfterSetup before now old new) (AfterSetup first last one two)
        (λ tree. tells-wider x x (as-it-is x) (setup_told tree) (FromDescription before now old new tree) (FromDescription first last one two tree) (description-whole tree)) came

-- ---- a document that was read with its overlays, and what follows it

pub ok-no-fault : {A B : Type 0} (a : A) (y : Result B LoadFault) → HandsOn (Ok a) y
ok-no-fault a y fault is = absurd (cc)

pub same-fault : {A B : Type 0} (e : LoadFault) → HandsOn {A = A} {B = B} (Err e) (Err e)
same-fault e fault is = let same : e ≡ fault = cc in ap (λ f. Err f) same

pub same-tree : (tree made : Json) → Given made (Ok tree) → tree ≡ made
same-tree tree made given = cc

pub no-tree-given : (fault : LoadFault) (made : Json) → Given made (Err fault) → ⊥
no-tree-given fault made given = cc

module _ {A : Type 0} (before now first last : FilesView) (part : FilesPart before now first last) (old new one two : PatternsView) (asked : PatternsPart old new one two)
    (path label : List ℕ) (os : List Listed) (Next : Json → Result A LoadFault → Type 0) where
  -- what follows goes on with its tree
  pub document-given : (tree : Json) (y : Result A LoadFault) → ReadingOverlaid before now old new path label os Given (Ok tree) → Next tree y → ReadingOverlaid first last one two path label os Next y
  document-given tree y reads goes =
      document-wider (Ok tree) y (ok-no-fault tree y) before now first last part old new one two asked path label os Given Next
      (λ made given. subst (λ t. Next t y) (same-tree tree made given) goes) reads

  -- there is none
  pub document-none : (fault : LoadFault) → ReadingOverlaid before now old new path label os Given (Err fault) → ReadingOverlaid first last one two path label os Next (Err fault)
  document-none fault reads =
      document-wider (Err fault) (Err fault) (same-fault fault) before now first last part old new one two asked path label os Given Next
      (λ made given. absurd (no-tree-given fault made given)) reads

  -- a rule of what follows fails, or memory runs out
  pub document-refused : (tree : Json) (o : Option Refusal) (fault : RuleFault) → ReadingOverlaid before now old new path label os Given (Ok tree) → Checks o (Err fault)
      → ((r : Refusal) → o ≡ Some r → Next tree (Err (Refused r))) → ReadingOverlaid first last one two path label os Next (Err (load_fault fault))
  document-refused tree o (rule.Refused r) reads fails goes = document-given tree (Err (Refused r)) reads (goes r fails)
  document-refused tree o rule.Memory reads fails goes = inr (inr refl)

-- ---- a document's file and overlays at equal paths, labels and lists

pub document-at : (before now : FilesView) (old new : PatternsView) (path path' label label' : List ℕ) (os os' : List Listed) (x : Result Json LoadFault)
    → path ≡ path' → label ≡ label' → os ≡ os' → ReadingOverlaid before now old new path label os Given x → ReadingOverlaid before now old new path' label' os' Given x
document-at before now old new path path' label label' os os' x p l o reads =
    let P : List ℕ → Type 0 = λ q. ReadingOverlaid before now old new q label os Given x in
    let L : List ℕ → Type 0 = λ m. ReadingOverlaid before now old new path' m os Given x in
    let O : List Listed → Type 0 = λ ls. ReadingOverlaid before now old new path' label' ls Given x in
    subst O o (subst L l (subst P p reads))

-- ---- sources that were read, and what follows them

pub same-source : (source made : Named) → GivenSource made (Ok source) → source ≡ made
same-source source made given = cc

pub no-source-given : (fault : LoadFault) (made : Named) → GivenSource made (Err fault) → ⊥
no-source-given fault made given = cc

same-sources : (sources made : List Named) → GivenSources made (Ok sources) → sources ≡ made
same-sources sources made given = cc

no-sources-given : (fault : LoadFault) (made : List Named) → GivenSources made (Err fault) → ⊥
no-sources-given fault made given = cc

module _ {A : Type 0} (before now : FilesView) (old new : PatternsView) (setup : Json) (described : List Json) (Next : List Named → Result A LoadFault → Type 0) where
  -- what follows goes on with them
  pub sources-given : (sources : List Named) (y : Result A LoadFault) → FromSources before now old new setup described GivenSources (Ok sources) → Next sources y → FromSources before now old new setup described Next y
  sources-given sources y reads goes =
      sources-wider (Ok sources) y (ok-no-fault sources y) before now before now (files-whole before now) old new old new (patterns-whole old new) setup described GivenSources Next
      (λ made given. subst (λ t. Next t y) (same-sources sources made given) goes) reads

  -- one of them isn't read, or fails a rule
  pub sources-none : (fault : LoadFault) → FromSources before now old new setup described GivenSources (Err fault) → FromSources before now old new setup described Next (Err fault)
  sources-none fault reads =
      sources-wider (Err fault) (Err fault) (same-fault fault) before now before now (files-whole before now) old new old new (patterns-whole old new) setup described GivenSources Next
      (λ made given. absurd (no-sources-given fault made given)) reads
