use Rattle.std.proofs.Common.{◌≡◌, sym, ◌∙◌, Some}
use Rattle.std.proofs.lemmas.Result.{IfOk-weaker}
use Rattle.arz_probe.specs.Overlays.{overlays}
use Rattle.arz_probe.specs.Reports.{tree_in}
use Rattle.arz_probe.proofs.overlays.overlay_report.Goals as goal

pub returns : goal.returns
returns g c =
    let description : tree_in c.args.overlay.now ≡ Some c.in-Some.document = sym c.in_ok-document.ensures.tree ∙ c.in-Some.is in
    let root : tree_in c.args.bytes.now ≡ Some c.in-Some-2.root = sym c.in_ok-root.ensures.tree ∙ c.in-Some-2.is in
    IfOk-weaker _ _ _ (λ r prints. overlays c.in-Some.document c.in-Some-2.root description root prints) c.overlaid_report.ensures
