use Rattle.std.proofs.Common.{◌≡◌, ap, ◌∙◌, Ok, Err, Some, List, ℕ}
use Rattle.arz_json.specs.declared.Json.{Json}
use Rattle.arz_json.specs.declared.Named.{Named}
use Rattle.arz_bundle.specs.FileTree.{GivenSource, load_fault}
use Rattle.arz_bundle.specs.Loading.{Tells, OneSource, source_name, named}
use Rattle.arz_bundle.specs.Overlays.{overlays_for}
use Rattle.arz_bundle.specs.Phases.{source_told, source_label}
use Rattle.arz_bundle.specs.Setup.{path_of_source}
use Rattle.arz_bundle.proofs.Stages.{exit, tells-refused, tells-on, labelled}
use Rattle.arz_bundle.proofs.Wholes.{files-whole, patterns-whole, document-given, document-none, document-refused, document-at}
use Rattle.arz_bundle.proofs.sources.read_source.Goals as goal

abbrev made : List ℕ → Json → Named
made name root = record { name = name; root = root }

named-as : (source root : Json) (name : List ℕ) → name ≡ source_name source → GivenSource (named source root) (Ok (made name root))
named-as source root name is = ap (λ n. Ok (made n root)) is

pub returns-in_err-root-clause-reads : goal.returns-in_err-root-clause-reads
returns-in_err-root-clause-reads g c =
    let before = g.F.Files.files c.args.files.now in
    let now = g.F.Files.files c.read_overlaid.new.files in
    let old = g.P.Patterns.patterns c.args.rx.now in
    let new = g.P.Patterns.patterns c.read_overlaid.new.rx in
    let fault = c.in_err-root.field-0.0 in
    let setup = c.args.setup.now in
    let source = c.args.source.now in
    let label = source_label (source_name source) in
    exit (OneSource before now old new setup source GivenSource) c.from_residual-in_err-root.result fault c.from_residual-in_err-root.ensures.1
    (document-none before now before now (files-whole before now) old new old new (patterns-whole old new) (path_of_source setup source) label (overlays_for (Some (source_name source)) setup)
    (λ root. Tells (source_told label root) (GivenSource (named source root))) fault
    (document-at before now old new _ _ _ _ _ _ (Err fault) c.source_path-path.ensures (c.as_str.ensures.value ∙ c.in_ok-label.ensures ∙ ap source_label c.text_at-name.ensures)
    (ap (λ name. overlays_for (Some name) setup) c.text_at-name.ensures) c.in_err-root.ensures.reads))

pub returns-in_err-check_source-clause-reads : goal.returns-in_err-check_source-clause-reads
returns-in_err-check_source-clause-reads g c =
    let before = g.F.Files.files c.args.files.now in
    let now = g.F.Files.files c.read_overlaid.new.files in
    let old = g.P.Patterns.patterns c.args.rx.now in
    let new = g.P.Patterns.patterns c.read_overlaid.new.rx in
    let root = c.in_ok-root.root in
    let fault = c.in_err-check_source.field-0.0 in
    let setup = c.args.setup.now in
    let source = c.args.source.now in
    let label = source_label (source_name source) in
    exit (OneSource before now old new setup source GivenSource) c.from_residual-in_err-check_source.result (load_fault fault) c.from_residual-in_err-check_source.ensures.1
    (document-refused before now before now (files-whole before now) old new old new (patterns-whole old new) (path_of_source setup source) label (overlays_for (Some (source_name source)) setup)
    (λ root. Tells (source_told label root) (GivenSource (named source root))) root (source_told label root) fault
    (document-at before now old new _ _ _ _ _ _ (Ok root) c.source_path-path.ensures (c.as_str.ensures.value ∙ c.in_ok-label.ensures ∙ ap source_label c.text_at-name.ensures)
    (ap (λ name. overlays_for (Some name) setup) c.text_at-name.ensures) c.in_ok-root.ensures.reads)
    (labelled _ _ root (Err fault) (c.as_str-2.ensures.value ∙ c.in_ok-label.ensures ∙ ap source_label c.text_at-name.ensures) c.in_err-check_source.ensures)
    (tells-refused (source_told label root) _))

pub returns-clause-reads : goal.returns-clause-reads
returns-clause-reads g c =
    let before = g.F.Files.files c.args.files.now in
    let now = g.F.Files.files c.read_overlaid.new.files in
    let old = g.P.Patterns.patterns c.args.rx.now in
    let new = g.P.Patterns.patterns c.read_overlaid.new.rx in
    let root = c.in_ok-root.root in
    let setup = c.args.setup.now in
    let source = c.args.source.now in
    let label = source_label (source_name source) in
    document-given before now before now (files-whole before now) old new old new (patterns-whole old new) (path_of_source setup source) label (overlays_for (Some (source_name source)) setup)
    (λ root. Tells (source_told label root) (GivenSource (named source root))) root _
    (document-at before now old new _ _ _ _ _ _ (Ok root) c.source_path-path.ensures (c.as_str.ensures.value ∙ c.in_ok-label.ensures ∙ ap source_label c.text_at-name.ensures)
    (ap (λ name. overlays_for (Some name) setup) c.text_at-name.ensures) c.in_ok-root.ensures.reads)
    (tells-on (source_told label root) _ _
    (labelled _ _ root (Ok tt) (c.as_str-2.ensures.value ∙ c.in_ok-label.ensures ∙ ap source_label c.text_at-name.ensures) c.in_ok-check_source.ensures) (named-as source root _ (c.in_ok-name.ensures ∙ c.text_at-name.ensures)))
