use Rattle.std.proofs.Common.{map}
use Rattle.arz_bundle.specs.FileTree.{Given}
use Rattle.arz_bundle.specs.Loading.{Overlaid}
use Rattle.arz_bundle.specs.Overlays.{seen}
use Rattle.arz_bundle.proofs.Overlaying.{later-then, asked-then, leads-next, leads-fails, leads-end}
use Rattle.arz_bundle.proofs.Stages.{exit}
use Rattle.arz_bundle.proofs.overlays.with_overlays.Goals as goal

pub loop-overlay-preserved : goal.loop-overlay-preserved
loop-overlay-preserved g c =
    let first = g.F.Files.files c.args.files.now in
    let before = g.F.Files.files c.loop-overlay.files in
    let mid = g.F.Files.files c.with_overlay.new.files in
    let one = g.P.Patterns.patterns c.args.rx.now in
    let old = g.P.Patterns.patterns c.loop-overlay.rx in
    let half = g.P.Patterns.patterns c.with_overlay.new.rx in
    record {
      nests = c.in_ok-tree.ensures.nests;
      later = later-then first before mid c.loop-overlay.invariant.later (record { told = c.in_ok-tree.ensures.told; counts = c.in_ok-tree.ensures.counts });
      asked = asked-then one old half c.loop-overlay.invariant.asked c.in_ok-tree.ensures.asked;
      leads = leads-next first before mid one old half (map seen c.args.overlays.now) c.args.overlays.now c.loop-overlay.overlay-index _ c.loop-overlay-test.true c.args.tree c.loop-overlay.tree
          (record { told = c.in_ok-tree.ensures.told; counts = c.in_ok-tree.ensures.counts }) c.in_ok-tree.ensures.asked c.loop-overlay.invariant.leads c.in_ok-tree.tree c.in_ok-tree.ensures.overlay;
    }

pub returns-in_err-tree-clause-overlaid : goal.returns-in_err-tree-clause-overlaid
returns-in_err-tree-clause-overlaid g c =
    let first = g.F.Files.files c.args.files.now in
    let before = g.F.Files.files c.loop-overlay.files in
    let mid = g.F.Files.files c.with_overlay.new.files in
    let one = g.P.Patterns.patterns c.args.rx.now in
    let old = g.P.Patterns.patterns c.loop-overlay.rx in
    let half = g.P.Patterns.patterns c.with_overlay.new.rx in
    let fault = c.in_err-tree.field-0.0 in
    exit (Overlaid first mid one half (map seen c.args.overlays.now) c.args.tree Given) c.from_residual.result fault c.from_residual.ensures.1
    (leads-fails first before mid one old half (map seen c.args.overlays.now) c.args.overlays.now c.loop-overlay.overlay-index _ c.loop-overlay-test.true c.args.tree c.loop-overlay.tree
    (record { told = c.in_err-tree.ensures.told; counts = c.in_err-tree.ensures.counts }) c.in_err-tree.ensures.asked c.loop-overlay.invariant.leads fault c.in_err-tree.ensures.overlay)

pub returns-clause-overlaid : goal.returns-clause-overlaid
returns-clause-overlaid g c =
    leads-end (g.F.Files.files c.args.files.now) (g.F.Files.files c.loop-overlay.files) (g.P.Patterns.patterns c.args.rx.now) (g.P.Patterns.patterns c.loop-overlay.rx)
    (map seen c.args.overlays.now) c.args.overlays.now c.loop-overlay.overlay-index c.args.tree c.loop-overlay.tree c.loop-overlay-test.false c.loop-overlay.invariant.leads
