-- Over files that tell what they hold, and of which a read failed only where no file is there, and patterns that tell what the command asks of
-- them, of which none was too big, files give one result.
use Rattle.std.proofs.Common.{◌≡◌, ◌≢◌, ◌<◌, ◌≤◌, inl, inr, ℕ, Bool, List, [], ◌∷◌, ◌++◌, length, codes, Option, None, Some, Result, Ok, Err, refl, sym, ap, ◌∙◌, subst, arith}
use Rattle.arz_json.specs.Look.{items_at}
use Rattle.arz_json.specs.declared.Json.{Json}
use Rattle.arz_json.specs.declared.Named.{Named}
use Rattle.arz_json.proofs.Readings.{Reads-unique}
use Rattle.arz_overlay.specs.Documents.{Document, document}
use Rattle.arz_overlay.specs.Overlaid.{overlaid}
use Rattle.arz_json.specs.Tree.{IsWithin}
use Rattle.arz_overlay.specs.Applied.{Says}
use Rattle.arz_rx.specs.Patterns.{PatternsView, Rose as PatternsRose}
use Rattle.arz_world.specs.Outside.{FilesView, ReadsAs, Rose, Told}
use Rattle.arz_json.specs.declared.Refusal.{Refusal}
use Rattle.arz_flow.specs.declared.bundle.Bundle.{Bundle}
use Rattle.arz_bundle.specs.declared.fault.LoadFault.{LoadFault}
use Rattle.arz_bundle.specs.declared.fault.LoadFault.TheVariants.{Refused, Memory}
use Rattle.arz_bundle.specs.Loading.{file_limit, IsFile, NoFile, Tells, Judged, Reading, Taken, Applied, Overlaid, ReadingOverlaid, source_name, named, FromSources, AfterSources, AfterBuilt, AfterDescription, FromDescription, AfterSetup, Loads, AfterReplies, Gives_replies}
use Rattle.arz_components.specs.Described.{component}
use Rattle.arz_cond.specs.Outcomes.{Patterned}
use Rattle.arz_criteria.specs.Rules.{bad_patterns, AreReadingsTold}
use Rattle.arz_criteria.proofs.Agreed.{one_outcome}
use Rattle.arz_doc.specs.Cycles.{TellsCycles}
use Rattle.arz_doc.specs.Order.{name_rules, judged_rules, sending_rules, whole_rules, whole_rules_with}
use Rattle.arz_graph.proofs.Tests.{tests_agree}
use Rattle.arz_bundle.specs.Naming.{naming_rules}
use Rattle.arz_bundle.specs.Overlays.{Listed, items_for, overlays_for, overlay_label}
use Rattle.arz_bundle.specs.Phases.{told as told_of, earlier, setup_told, IsDescribed, unbuilt_told, source_label, source_told, steps_told, size_told, replies_told}
use Rattle.arz_bundle.specs.Replies.{replies_of}
use Rattle.arz_bundle.specs.Setup.{description_path, path_of_source, bundle_of}
use Rattle.arz_top.specs.declared.words.Command.{Command}
use Rattle.arz_top.specs.Steady.{IsSteady, IsFileAt, IsSetup, IsDescription, HasOverlay, ArePatternsSteady}

-- all results of this kind are one, but want of memory
abbrev pub IsOne : {A : Type 0} → (Result A LoadFault → Type 0) → Type 0
IsOne {A} Came = (x y : Result A LoadFault) → x ≢ Err Memory → y ≢ Err Memory → Came x → Came y → x ≡ y

same_bytes : (told : Told) (limit : ℕ) (a b : List ℕ) → told ≢ None → ReadsAs told limit a → ReadsAs told limit b → a ≡ b
same_bytes None limit a b tells p q = absurd (tells refl)
same_bytes (Some None) limit a b tells p q = absurd p
same_bytes (Some (Some file)) limit a b tells p q = p ∙ sym q

tells-one : {A : Type 0} (o : Option Refusal) (Next : Result A LoadFault → Type 0) → IsOne Next → IsOne (Tells o Next)
tells-one (Some r) Next one x y mx my p q = p ∙ sym q
tells-one None Next one x y mx my p q = one x y mx my p q

-- a file that was read is there, so no read of it failed
not-there : (before now : FilesView) (path : List ℕ) → IsSteady before now → (bytes : List ℕ) → ReadsAs (before.told path) file_limit bytes → Rose (before.faults path) (now.faults path) → ⊥
not-there before now path steady bytes reads rose = subst (λ t. ReadsAs t file_limit bytes) (steady.missing path rose) reads

-- no file is too large and small enough
not-both : (n : ℕ) → n ≤ file_limit → file_limit < n → ⊥
not-both n small large = omega arith

-- a file that fails a rule of all files fails one rule
fault-one : (label bytes : List ℕ) (r s : Refusal) → NoFile label bytes r → NoFile label bytes s → r ≡ s
fault-one label bytes r s (inl (large, p)) (inl (large', q)) = p ∙ sym q
fault-one label bytes r s (inl (large, p)) (inr (small, none, q)) = absurd (not-both (length bytes) small large)
fault-one label bytes r s (inr (small, none, p)) (inl (large, q)) = absurd (not-both (length bytes) small large)
fault-one label bytes r s (inr (small, none, p)) (inr (small', none', q)) = p ∙ sym q

-- and has no tree
no-tree : (label bytes : List ℕ) (r : Refusal) (tree : Json) → NoFile label bytes r → IsFile bytes tree → ⊥
no-tree label bytes r tree (inl (large, p)) file = not-both (length bytes) file.0 large
no-tree label bytes r tree (inr (small, none, p)) file = none tree file.1

module _ {A : Type 0} (label : List ℕ) (Next : Json → Result A LoadFault → Type 0) (before now : FilesView) (path : List ℕ) (one : (tree : Json) → IsFileAt before path tree → IsOne (Next tree)) where
  judged-one : (bytes : List ℕ) → ReadsAs (before.told path) file_limit bytes → IsOne (Judged label Next bytes)
  judged-one bytes reads x y mx my (inl (tree, file, goes)) (inl (other, file', goes')) =
      one tree (bytes, reads, file) x y mx my goes (subst (λ j. Next j y) (Reads-unique bytes other tree file'.1 file.1) goes')
  judged-one bytes reads x y mx my (inl (tree, file, goes)) (inr (r, none, is)) = absurd (no-tree label bytes r tree none file)
  judged-one bytes reads x y mx my (inr (r, none, is)) (inl (tree, file, goes)) = absurd (no-tree label bytes r tree none file)
  judged-one bytes reads x y mx my (inr (r, none, is)) (inr (s, none', is')) =
      is ∙ ap (λ (z : Refusal). Err (Refused z)) (fault-one label bytes r s none none') ∙ sym is'

  reading-one : IsSteady before now → IsOne (Reading before now path label Next)
  reading-one steady x y mx my (inl (bytes, reads, judged)) (inl (bytes', reads', judged')) =
      let same : bytes' ≡ bytes = same_bytes (before.told path) file_limit bytes' bytes (steady.told path) reads' reads in
      judged-one bytes reads x y mx my judged (subst (λ b. Judged label Next b y) same judged')
  reading-one steady x y mx my (inl a) (inr (inl b)) = absurd (not-there before now path steady a.0 a.1 b.0)
  reading-one steady x y mx my (inl a) (inr (inr b)) = absurd (my b)
  reading-one steady x y mx my (inr (inl a)) (inl b) = absurd (not-there before now path steady b.0 b.1 a.0)
  reading-one steady x y mx my (inr (inl a)) (inr (inl b)) = a.1 ∙ sym b.1
  reading-one steady x y mx my (inr (inl a)) (inr (inr b)) = absurd (my b)
  reading-one steady x y mx my (inr (inr a)) b = absurd (mx a)

-- a phase, and the one result that is given where it tells nothing
gives-one : {A : Type 0} (o : Option Refusal) (given : Result A LoadFault) → IsOne (Tells o (λ x. x ≡ given))
gives-one o given = tells-one o (λ x. x ≡ given) (λ x y mx my p q. p ∙ sym q)

-- the tests of cycles agree, and those of readings where these are told, so one thing is told of a description
same-whole : (root : Json) (f g : ℕ → Bool) (r t : List ℕ → Bool) → TellsCycles root f → TellsCycles root g → bad_patterns r root ≡ bad_patterns t root → whole_rules f r root ≡ whole_rules g t root
unfolding whole_rules whole_rules_with
same-whole root f g r t p q e =
    let by-cycles : whole_rules f r root ≡ whole_rules g r root = λ k. whole_rules (λ i. (tests_agree (f i) (g i) (p.exact i) (q.exact i)) k) r root in
    by-cycles ∙ ap (λ ps. name_rules (component root) g root ++ judged_rules root ++ ((16, ps) ∷ []) ++ sending_rules root) e

one-described : (told : Patterned) (setup description : Json) → AreReadingsTold told description → (o p : Option Refusal) → IsDescribed told setup description o → IsDescribed told setup description p → o ≡ p
one-described told setup description readings o p (f, f-tells, r, r-tells, o-is) (g, g-tells, t, t-tells, p-is) =
    let named = told_of (codes "setup") (naming_rules description setup) in
    o-is
    ∙ ap (λ rs. earlier named (told_of (codes "arazzo") rs)) (same-whole description f g r t f-tells g-tells (one_outcome told description r t readings r-tells t-tells))
    ∙ sym p-is

-- ---- overlays

taken-one : {A : Type 0} (r : Result Document Refusal) (Next : Document → Result A LoadFault → Type 0) → ((d : Document) → r ≡ Ok d → IsOne (Next d)) → IsOne (Taken r Next)
taken-one (Ok d) Next one x y mx my p q = one d refl x y mx my p q
taken-one (Err r) Next one x y mx my p q = p ∙ sym q

abbrev Meant : Type 0
Meant = Result Json Refusal

same-made : (m : Meant) (i j : Json) → m ≡ Ok i → m ≡ Ok j → j ≡ i
same-made m i j p q = cc

same-refused : (m : Meant) (r s : Refusal) → m ≡ Err r → m ≡ Err s → r ≡ s
same-refused m r s p q = cc

not-both-made : (m : Meant) (j : Json) (r : Refusal) → m ≡ Ok j → m ≡ Err r → ⊥
not-both-made m j r p q = cc

-- where it is told what an overlay makes of a tree, and no pattern was too big, one result follows
module _ (old new : PatternsView) (sized : PatternsRose old.too_big new.too_big → ⊥) where
  applied-one : {A : Type 0} (Next : Json → Result A LoadFault → Type 0) (meant : Option Meant)
      → ((made : Json) → Says meant (Ok made) → IsWithin 127 made → IsOne (Next made)) → meant ≢ None → IsOne (Applied old new meant Next)
  applied-one Next None one some x y mx my p q = absurd (some refl)
  applied-one Next (Some m) one some x y mx my (inl (i, says, within, goes)) (inl (j, says', within', goes')) =
      one i says within x y mx my goes (subst (λ t. Next t y) (same-made m i j says says') goes')
  applied-one Next (Some m) one some x y mx my (inl (i, says, within, goes)) (inr (inl (r, says', is))) = absurd (not-both-made m i r says says')
  applied-one Next (Some m) one some x y mx my (inl p) (inr (inr q)) = absurd (sized q.0)
  applied-one Next (Some m) one some x y mx my (inr (inl (r, says, is))) (inl (j, says', within', goes')) = absurd (not-both-made m j r says' says)
  applied-one Next (Some m) one some x y mx my (inr (inl (r, says, is))) (inr (inl (s, says', is'))) =
      is ∙ ap (λ (z : Refusal). Err (Refused z)) (same-refused m r s says says') ∙ sym is'
  applied-one Next (Some m) one some x y mx my (inr (inl p)) (inr (inr q)) = absurd (sized q.0)
  applied-one Next (Some m) one some x y mx my (inr (inr p)) q = absurd (sized p.0)

-- the setup lists an overlay where one is for a document of it
lists-some : (whose : Option (List ℕ)) (setup : Json) → overlays_for whose setup ≢ [] → items_at (codes "overlays") setup ≢ []
lists-some whose setup some none = some (ap (items_for whose 0) none)

-- ---- a command whose setup is at this path

module _ (before now : FilesView) (old new : PatternsView) (command : Command) (path : List ℕ) (at-path : (setup : Json) → IsFileAt before path setup → IsSetup before command setup)
    (steady : IsSteady before now) (sure : ArePatternsSteady before now old new command) where
  -- these overlays make this of a tree
  abbrev Makes : List Listed → (tree made : Json) → Type 0
  Makes os tree made = Overlaid before now old new os tree (λ t x. x ≡ Ok t) (Ok made)

  module _ {A : Type 0} (Next : Json → Result A LoadFault → Type 0) where
    overlaid-one : (os : List Listed) → (os ≢ [] → HasOverlay before now old new command) → (tree : Json) → ((made : Json) → Makes os tree made → IsOne (Next made)) → IsOne (Overlaid before now old new os tree Next)
    overlaid-one [] has tree one = one tree refl
    overlaid-one (o ∷ os) has tree one =
        let label = overlay_label o.index in
        let some : o ∷ os ≢ [] = λ none. cc in
        let here = has some in
        let Rest : Json → Result A LoadFault → Type 0 = λ made. Overlaid before now old new os made Next in
        let Then : Document → Result A LoadFault → Type 0 = λ d. Applied old new (overlaid old.told d tree) Rest in
        let Made : Json → Result Json LoadFault → Type 0 = λ t x. x ≡ Ok t in
        reading-one label (λ root. Taken (document label root) Then) before now o.path
        (λ root file. taken-one (document label root) Then (λ d is. applied-one old new (sure.sized (inl here)) Rest (overlaid old.told d tree)
        (λ made says within. overlaid-one os (λ more. here) made
        (λ last makes. one last (inl (
          file.0,
          file.1,
          inl (
            root,
            file.2,
            subst (λ r. Taken r (λ e. Applied old new (overlaid old.told e tree) (λ t. Overlaid before now old new os t Made)) (Ok last)) (sym is) (inl (made, says, within, makes)),
          ),
        ))))
        (sure.overlays here o.path label root tree d file is)))
        steady

    document-one : (path label : List ℕ) (os : List Listed) → (os ≢ [] → HasOverlay before now old new command)
        → ((made : Json) → ReadingOverlaid before now old new path label os (λ t x. x ≡ Ok t) (Ok made) → IsOne (Next made)) → IsOne (ReadingOverlaid before now old new path label os Next)
    document-one path label os has one =
        reading-one label (λ tree. Overlaid before now old new os tree Next) before now path
        (λ tree file. overlaid-one os has tree (λ made makes. one made (inl (file.0, file.1, inl (tree, file.2, makes))))) steady

  -- ---- the files, one by one

  module _ (setup : Json) (is-setup : IsSetup before command setup) where
    has-overlay : (whose : Option (List ℕ)) → overlays_for whose setup ≢ [] → HasOverlay before now old new command
    has-overlay whose some = (setup, is-setup, lists-some whose setup some)

    sources-one : {A : Type 0} (described : List Json) (Next : List Named → Result A LoadFault → Type 0) → ((sources : List Named) → IsOne (Next sources))
        → IsOne (FromSources before now old new setup described Next)
    sources-one [] Next one = one []
    sources-one {A} (source ∷ described) Next one =
        let whose = Some (source_name source) in
        let label = source_label (source_name source) in
        let Rest : Json → Result A LoadFault → Type 0 = λ root. FromSources before now old new setup described (λ sources. Next (named source root ∷ sources)) in
        document-one (λ root. Tells (source_told label root) (Rest root)) (path_of_source setup source) label (overlays_for whose setup) (has-overlay whose)
        (λ root made. tells-one (source_told label root) (Rest root)
        (sources-one described (λ sources. Next (named source root ∷ sources)) (λ sources. one (named source root ∷ sources))))

    after-one : (description : Json) (sources : List Named) → IsOne (AfterSources setup description sources)
    after-one description sources =
        let bundle = bundle_of setup description sources in
        let Made : Result Bundle LoadFault → Type 0 = λ x. x ≡ Ok bundle in
        tells-one (steps_told setup description sources) (Tells (size_told bundle) Made) (gives-one (size_told bundle) (Ok bundle))

    built-one : (description : Json) → IsOne (AfterBuilt before now old new setup description)
    built-one description = sources-one (items_at (codes "sourceDescriptions") description) (AfterSources setup description) (after-one description)

    described-one : (description : Json) → IsDescription before now old new setup description → IsOne (AfterDescription before now old new setup description)
    described-one description made x y mx my (inl (told, described, came)) (inl (other, described', came')) =
        let unbuilt = unbuilt_told description in
        let Then = AfterBuilt before now old new setup description in
        let readings = sure.readings setup description is-setup made in
        tells-one told (Tells unbuilt Then) (tells-one unbuilt Then (built-one description)) x y mx my came
        (subst (λ o. Tells o (Tells unbuilt Then) y) (one-described old.told setup description readings other told described' described) came')
    described-one description made x y mx my (inl p) (inr (rose, some, is)) = absurd (sure.sized (inr (inl (setup, description, is-setup, made, some))) rose)
    described-one description made x y mx my (inr (rose, some, is)) q = absurd (sure.sized (inr (inl (setup, description, is-setup, made, some))) rose)

    description-one : IsOne (FromDescription before now old new setup)
    description-one =
        document-one (AfterDescription before now old new setup) (description_path setup) (codes "arazzo") (overlays_for None setup) (has-overlay None) described-one

  pub loads-one : IsOne (Loads before now old new path)
  loads-one =
      reading-one (codes "setup") (AfterSetup before now old new) before now path
      (λ tree file. tells-one (setup_told tree) (FromDescription before now old new tree) (description-one tree (at-path tree file))) steady

module _ (before now : FilesView) (steady : IsSteady before now) where
  pub replies-one : (path : List ℕ) → IsOne (Gives_replies before now path)
  replies-one path =
      reading-one (codes "replies") AfterReplies before now path (λ tree file. gives-one (replies_told tree) (Ok (replies_of tree))) steady
