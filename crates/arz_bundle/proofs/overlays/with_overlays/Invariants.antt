use Rattle.std.proofs.Common.{drop, map}
use Rattle.arz_json.specs.Tree.{IsWithin}
use Rattle.arz_path.specs.Results.{Asked}
use Rattle.arz_bundle.specs.Overlays.{seen}
use Rattle.arz_bundle.proofs.Overlaying.{Leads}
use Rattle.arz_bundle.proofs.Wholes.{Later}
use Rattle.arz_bundle.proofs.overlays.with_overlays.Given as goal

-- what comes of the overlays that are left, from this tree on, comes of all
abbrev pub invariant-loop-overlay : goal.invariant-loop-overlay
invariant-loop-overlay g l =
    let files = g.F.Files.files in
    let patterns = g.P.Patterns.patterns in
    record {
      nests : IsWithin 127 l.tree;
      later : Later (files l.fn.files) (files l.files);
      asked : Asked (patterns l.fn.rx) (patterns l.rx);
      leads : Leads (files l.fn.files) (files l.files) (patterns l.fn.rx) (patterns l.rx) (map seen l.overlays) (map seen (drop l.overlay-index l.overlays)) l.fn.tree l.tree;
    }
