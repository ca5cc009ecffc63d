use Rattle.std.proofs.Common.{◌≡◌, ℕ, List, Ok, Err, refl, ◌∙◌, subst}
use Rattle.arz_json.specs.Answer.{Fails}
use Rattle.arz_overlay.specs.Applied.{refusal_in}
use Rattle.arz_overlay.specs.Documents.{document}
use Rattle.arz_bundle.specs.FileTree.{Given, overlay_fault}
use Rattle.arz_bundle.specs.Loading.{OneOverlay}
use Rattle.arz_bundle.specs.Overlays.{seen}
use Rattle.arz_bundle.proofs.Overlaying.{overlay-none, overlay-unread, overlay-made, overlay-unmade}
use Rattle.arz_bundle.proofs.Stages.{exit, at-place}
use Rattle.arz_bundle.proofs.overlays.with_overlay.Goals as goal

pub returns-in_err-root-clause-overlay : goal.returns-in_err-root-clause-overlay
returns-in_err-root-clause-overlay g c =
    let before = g.F.Files.files c.args.files.now in
    let now = g.F.Files.files c.read_tree.new.files in
    let old = g.P.Patterns.patterns c.args.rx.now in
    let o = seen c.args.overlay.now in
    let fault = c.in_err-root.field-0.0 in
    exit (OneOverlay before now old old o c.args.tree.now Given) c.from_residual-in_err-root.result fault c.from_residual-in_err-root.ensures.1
    (overlay-none before now old old o c.args.tree.now fault
    (at-place before now _ _ _ _ (Err fault) refl (c.as_str.ensures.value ∙ c.in_ok-label.ensures) c.in_err-root.ensures.tree))

pub returns-in_err-document-clause-overlay : goal.returns-in_err-document-clause-overlay
returns-in_err-document-clause-overlay g c =
    let before = g.F.Files.files c.args.files.now in
    let now = g.F.Files.files c.read_tree.new.files in
    let old = g.P.Patterns.patterns c.args.rx.now in
    let o = seen c.args.overlay.now in
    let root = c.in_ok-root.root in
    let fault = c.in_err-document.field-0.0 in
    let P : List ℕ → Type 0 = λ label. Fails (refusal_in fault) (document label root) in
    exit (OneOverlay before now old old o c.args.tree.now Given) c.from_residual-in_err-document.result (overlay_fault fault) c.from_residual-in_err-document.ensures.1
    (overlay-unread before now old old o c.args.tree.now root fault
    (at-place before now _ _ _ _ (Ok root) refl (c.as_str.ensures.value ∙ c.in_ok-label.ensures) c.in_ok-root.ensures.tree)
    (subst P (c.as_str-2.ensures.value ∙ c.in_ok-label.ensures) c.in_err-document.ensures.gives) c.in_err-document.ensures.no_pattern)

pub returns-in_err-apply-clause-overlay : goal.returns-in_err-apply-clause-overlay
returns-in_err-apply-clause-overlay g c =
    let before = g.F.Files.files c.args.files.now in
    let now = g.F.Files.files c.read_tree.new.files in
    let old = g.P.Patterns.patterns c.args.rx.now in
    let new = g.P.Patterns.patterns c.apply.new.rx in
    let o = seen c.args.overlay.now in
    let root = c.in_ok-root.root in
    let d = c.in_ok-document.document in
    let fault = c.in_err-apply.field-0.0 in
    let P : List ℕ → Type 0 = λ label. document label root ≡ Ok d in
    exit (OneOverlay before now old new o c.args.tree.now Given) c.from_residual-in_err-apply.result (overlay_fault fault) c.from_residual-in_err-apply.ensures.1
    (overlay-unmade before now old new o c.args.tree.now root d
    (at-place before now _ _ _ _ (Ok root) refl (c.as_str.ensures.value ∙ c.in_ok-label.ensures) c.in_ok-root.ensures.tree)
    (subst P (c.as_str-2.ensures.value ∙ c.in_ok-label.ensures) c.in_ok-document.ensures.gives) fault c.in_err-apply.ensures.applies)

pub returns-clause-overlay : goal.returns-clause-overlay
returns-clause-overlay g c =
    let before = g.F.Files.files c.args.files.now in
    let now = g.F.Files.files c.read_tree.new.files in
    let old = g.P.Patterns.patterns c.args.rx.now in
    let new = g.P.Patterns.patterns c.apply.new.rx in
    let o = seen c.args.overlay.now in
    let root = c.in_ok-root.root in
    let d = c.in_ok-document.document in
    let P : List ℕ → Type 0 = λ label. document label root ≡ Ok d in
    overlay-made before now old new o c.args.tree.now root d
    (at-place before now _ _ _ _ (Ok root) refl (c.as_str.ensures.value ∙ c.in_ok-label.ensures) c.in_ok-root.ensures.tree)
    (subst P (c.as_str-2.ensures.value ∙ c.in_ok-label.ensures) c.in_ok-document.ensures.gives) c.in_ok-apply.field-0 c.in_ok-apply.ensures.applies (c.in_ok-apply.ensures.nests c.requires)
