use Rattle.std.proofs.Common.{◌≡◌, ◌≤◌, max, drop}
use Rattle.arz_json.specs.Tree.{depth}
use Rattle.arz_overlay.specs.Applied.{Keeps}
use Rattle.arz_changes.specs.Groups.{ways_seen}
use Rattle.arz_overlay.specs.Steps.{merged_at_each}
use Rattle.arz_overlay.proofs.working.merged_at_each.Given as goal

abbrev pub invariant-loop-way : goal.invariant-loop-way
invariant-loop-way l = record {
  gives : merged_at_each l.update (ways_seen l.ways) l.initial.work.tree ≡ merged_at_each l.update (ways_seen (drop l.way-index l.ways)) l.work.tree;
  keeps : Keeps l.work;
  nests : depth l.work.tree ≤ max 127 (depth l.initial.work.tree);
}
