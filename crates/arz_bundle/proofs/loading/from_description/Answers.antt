use Rattle.std.proofs.Common.{◌≡◌, inl, inr, codes, refl, sym, Option, None, Some, Result, subst, Ok, Err}
use Rattle.arz_json.specs.declared.Json.{Json}
use Rattle.arz_json.specs.declared.Refusal.{Refusal}
use Rattle.arz_path.specs.Results.{Asked}
use Rattle.arz_rules.specs.declared.phases.RuleFault.{RuleFault}
use Rattle.arz_rules.specs.declared.phases.RuleFault.TheVariants as rule
use Rattle.arz_rx.specs.Patterns.{PatternsView}
use Rattle.arz_world.specs.Outside.{FilesView}
use Rattle.arz_flow.specs.declared.bundle.Bundle.{Bundle}
use Rattle.arz_bundle.specs.declared.fault.LoadFault.{LoadFault}
use Rattle.arz_bundle.specs.declared.fault.LoadFault.TheVariants.{File, Refused, Pattern, Memory}
use Rattle.arz_bundle.specs.FileTree.{Checks, Given, JudgesDescription, OrMemory, load_fault}
use Rattle.arz_bundle.specs.Loading.{Tells, ReadingOverlaid, AfterBuilt, AfterDescription, FromDescription}
use Rattle.arz_bundle.specs.Overlays.{overlays_for}
use Rattle.arz_bundle.specs.Phases.{IsDescribed, unbuilt_told}
use Rattle.arz_bundle.specs.Setup.{description_path}
use Rattle.arz_bundle.proofs.Overlaying.{asked-then}
use Rattle.arz_bundle.proofs.Stages.{exit, tells-refused, tells-on}
use Rattle.arz_bundle.proofs.Wholes.{Later, same-files, same-patterns, files-whole, files-begin, files-end, patterns-whole, patterns-begin, patterns-end, built-whole, document-given, document-none, document-at}
use Rattle.arz_bundle.proofs.loading.from_description.Goals as goal

pub returns-in_err-description-clause-loads : goal.returns-in_err-description-clause-loads
returns-in_err-description-clause-loads g c =
    let before = g.F.Files.files c.args.files.now in
    let now = g.F.Files.files c.read_overlaid.new.files in
    let old = g.P.Patterns.patterns c.args.rx.now in
    let new = g.P.Patterns.patterns c.read_overlaid.new.rx in
    let fault = c.in_err-description.field-0.0 in
    let os = overlays_for None c.args.setup in
    exit (FromDescription before now old new c.args.setup) c.from_residual.result fault c.from_residual.ensures.1
    (document-none before now before now (files-whole before now) old new old new (patterns-whole old new) (description_path c.args.setup) (codes "arazzo") os
    (AfterDescription before now old new c.args.setup) fault
    (document-at before now old new _ _ (codes "arazzo") _ os _ (Err fault) c.text_at-path.ensures refl refl c.in_err-description.ensures.reads))

-- The patterns before the description is read, before its rules are looked at, before its sources are read, and at the end.
module _ (before after now : FilesView) (later : Later after now) (came : Later before after) (old mid half new : PatternsView) (asked : Asked old mid) (more : Asked mid half) (asks : Asked half new)
    (setup description : Json) (reads : ReadingOverlaid before after old mid (description_path setup) (codes "arazzo") (overlays_for None setup) Given (Ok description)) where
  abbrev At : Result Bundle LoadFault → Type 0
  At x = FromDescription before now old new setup x

  abbrev After : Result Bundle LoadFault → Type 0
  After x = AfterDescription before now old new setup description x

  from-there : (x : Result Bundle LoadFault) → After x → At x
  from-there x goes =
      document-given before after before now (files-begin before after now later) old mid old new (patterns-begin old mid new (asked-then mid half new more asks)) (description_path setup) (codes "arazzo")
      (overlays_for None setup) (AfterDescription before now old new setup) description x reads goes

  earlier-told : (o : Option Refusal) → IsDescribed mid.told setup description o → IsDescribed old.told setup description o
  earlier-told o described = subst (λ patterned. IsDescribed patterned setup description o) asked.told described

  -- the description fails a rule, or a pattern was too big
  judged : (fault : LoadFault) → JudgesDescription mid half setup description (Err fault) → At (Err fault)
  judged (File path) judges = absurd judges
  judged (Refused r) judges = from-there (Err (Refused r)) (inl (Some r, earlier-told (Some r) judges, refl))
  judged Pattern judges =
      let rose = (patterns-begin old half new asks).rose ((patterns-end old mid half asked).rose judges.0) in
      from-there (Err Pattern) (inr (rose, judges.1, refl))
  judged Memory judges = inr (inr refl)

  module _ (described : IsDescribed mid.told setup description None) where
    met : (x : Result Bundle LoadFault) → Tells (unbuilt_told description) (AfterBuilt before now old new setup description) x → At x
    met x tells = from-there x (inl (None, earlier-told None described, tells))

    unbuilt : (fault : RuleFault) → Checks (unbuilt_told description) (Err fault) → At (Err (load_fault fault))
    unbuilt (rule.Refused r) told = met (Err (Refused r)) (tells-refused (unbuilt_told description) (AfterBuilt before now old new setup description) r told)
    unbuilt rule.Memory told = inr (inr refl)

    goes-on : (x : Result Bundle LoadFault) → unbuilt_told description ≡ None → OrMemory (AfterBuilt after now half new setup description) x → At x
    goes-on x built (inl loads) =
        met x
        (tells-on (unbuilt_told description) _ _ built
        (built-whole after now before now (files-end before after now came) half new old new (patterns-end old half new (asked-then old mid half asked more)) x setup description loads))
    goes-on x built (inr is) = inr (inr is)

pub returns-in_err-check_description-clause-loads : goal.returns-in_err-check_description-clause-loads
returns-in_err-check_description-clause-loads g c =
    let before = g.F.Files.files c.args.files.now in
    let now = g.F.Files.files c.read_overlaid.new.files in
    let old = g.P.Patterns.patterns c.args.rx.now in
    let mid = g.P.Patterns.patterns c.read_overlaid.new.rx in
    let new = g.P.Patterns.patterns c.check_description.new.rx in
    let setup = c.args.setup in
    let description = c.in_ok-description.description in
    let fault = c.in_err-check_description.field-0.0 in
    exit (FromDescription before now old new setup) c.from_residual-in_err-check_description.result fault c.from_residual-in_err-check_description.ensures.1
    (judged before now now (same-files now) (record { told = c.read_overlaid.ensures.told; counts = c.read_overlaid.ensures.counts }) old mid new new c.read_overlaid.ensures.asked c.check_description.ensures.asked (same-patterns new)
    setup description (document-at before now old mid _ _ (codes "arazzo") _ (overlays_for None setup) _ (Ok description) c.text_at-path.ensures refl refl c.in_ok-description.ensures.reads)
    fault c.in_err-check_description.ensures.judges)

pub returns-in_err-check_built-clause-loads : goal.returns-in_err-check_built-clause-loads
returns-in_err-check_built-clause-loads g c =
    let before = g.F.Files.files c.args.files.now in
    let now = g.F.Files.files c.read_overlaid.new.files in
    let old = g.P.Patterns.patterns c.args.rx.now in
    let mid = g.P.Patterns.patterns c.read_overlaid.new.rx in
    let new = g.P.Patterns.patterns c.check_description.new.rx in
    let setup = c.args.setup in
    let description = c.in_ok-description.description in
    let fault = c.in_err-check_built.field-0.0 in
    exit (FromDescription before now old new setup) c.from_residual-in_err-check_built.result (load_fault fault) c.from_residual-in_err-check_built.ensures.1
    (unbuilt before now now (same-files now) (record { told = c.read_overlaid.ensures.told; counts = c.read_overlaid.ensures.counts }) old mid new new c.read_overlaid.ensures.asked c.check_description.ensures.asked (same-patterns new)
    setup description (document-at before now old mid _ _ (codes "arazzo") _ (overlays_for None setup) _ (Ok description) c.text_at-path.ensures refl refl c.in_ok-description.ensures.reads)
    c.in_ok-check_description.ensures.judges fault c.in_err-check_built.ensures)

pub returns-clause-loads : goal.returns-clause-loads
returns-clause-loads g c =
    let before = g.F.Files.files c.args.files.now in
    let after = g.F.Files.files c.read_overlaid.new.files in
    let now = g.F.Files.files c.from_sources.new.files in
    let old = g.P.Patterns.patterns c.args.rx.now in
    let mid = g.P.Patterns.patterns c.read_overlaid.new.rx in
    let half = g.P.Patterns.patterns c.check_description.new.rx in
    let new = g.P.Patterns.patterns c.from_sources.new.rx in
    let setup = c.args.setup in
    let description = c.in_ok-description.description in
    goes-on before after now (record { told = c.from_sources.ensures.told; counts = c.from_sources.ensures.counts }) (record { told = c.read_overlaid.ensures.told; counts = c.read_overlaid.ensures.counts })
    old mid half new c.read_overlaid.ensures.asked c.check_description.ensures.asked c.from_sources.ensures.asked setup description
    (document-at before after old mid _ _ (codes "arazzo") _ (overlays_for None setup) _ (Ok description) c.text_at-path.ensures refl refl c.in_ok-description.ensures.reads)
    c.in_ok-check_description.ensures.judges c.from_sources.result c.in_ok-check_built.ensures c.from_sources.ensures.loads

pub from_sources-requires-clause-described : goal.from_sources-requires-clause-described
from_sources-requires-clause-described g c =
    subst (λ patterned. IsDescribed patterned c.args.setup c.in_ok-description.description None) (sym c.check_description.ensures.asked.told) c.in_ok-check_description.ensures.judges
