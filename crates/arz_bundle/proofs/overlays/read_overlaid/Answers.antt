use Rattle.std.proofs.Common.{List, map, ap, ◌∙◌, subst}
use Rattle.std.specs.Option.{option_copied}
use Rattle.arz_bundle.specs.FileTree.{Given}
use Rattle.arz_bundle.specs.Loading.{Overlaid}
use Rattle.arz_bundle.specs.Overlays.{Listed, seen, overlays_for}
use Rattle.arz_bundle.proofs.Stages.{went-on}
use Rattle.arz_bundle.proofs.Wholes.{files-end, patterns-whole, as-it-is, overlaid-wider}
use Rattle.arz_bundle.proofs.overlays.read_overlaid.Goals as goal

pub returns-clause-reads : goal.returns-clause-reads
returns-clause-reads g c =
    let before = g.F.Files.files c.args.files.now in
    let after = g.F.Files.files c.read_tree.new.files in
    let now = g.F.Files.files c.with_overlays.new.files in
    let old = g.P.Patterns.patterns c.args.rx.now in
    let new = g.P.Patterns.patterns c.with_overlays.new.rx in
    let tree = c.in_ok-tree.tree in
    let os = overlays_for (option_copied c.args.whose) c.args.setup.now in
    let x = c.with_overlays.result in
    let P : List Listed → Type 0 = λ ls. Overlaid after now old new ls tree Given x in
    went-on before after now c.args.path.now c.args.label.now (λ t. Overlaid before now old new os t Given) tree x c.in_ok-tree.ensures.tree
    (overlaid-wider x x (as-it-is x) after now before now (files-end before after now (record { told = c.read_tree.ensures.told; counts = c.read_tree.ensures.counts }))
    old new old new (patterns-whole old new) os tree Given Given (λ made given. given)
    (subst P (ap (map seen) c.as_slice.ensures.value ∙ c.in_ok-overlays.ensures) c.with_overlays.ensures.overlaid))
