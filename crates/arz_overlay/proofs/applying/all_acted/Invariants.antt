use Rattle.std.proofs.Common.{◌≤◌, max, drop}
use Rattle.arz_json.specs.Tree.{depth}
use Rattle.arz_path.specs.Results.{Asked}
use Rattle.arz_overlay.specs.Applied.{Keeps}
use Rattle.arz_overlay.specs.Overlaid.{overlaid_from}
use Rattle.arz_overlay.proofs.Overlays.{Follows}
use Rattle.arz_overlay.proofs.applying.all_acted.Given as goal

abbrev pub invariant-loop-at : goal.invariant-loop-at
invariant-loop-at g l = record {
  follows : Follows (overlaid_from (g.P.Patterns.patterns l.fn.rx).told l.label 0 l.actions l.initial.work.tree)
      (overlaid_from (g.P.Patterns.patterns l.fn.rx).told l.label l.at (drop l.at l.actions) l.work.tree);
  asked : Asked (g.P.Patterns.patterns l.fn.rx) (g.P.Patterns.patterns l.rx);
  keeps : Keeps l.work;
  nests : depth l.work.tree ≤ max 127 (depth l.initial.work.tree);
}
