use Rattle.std.proofs.Common.{◌≡◌, ◌++◌, map, drop, true}
use Rattle.std.specs.List.{list_all}
use Rattle.arz_rules.specs.Sites.{in_items}
use Rattle.arz_overlay.specs.Documents.{target_of, is_query, bad_target}
use Rattle.arz_overlay.proofs.document.queries.Given as goal

abbrev pub invariant-loop-at : goal.invariant-loop-at
invariant-loop-at l = record {
  bad : in_items bad_target 0 l.actions ≡ in_items bad_target l.at (drop l.at l.actions);
  targets : l.queries.items ++ map target_of (drop l.at l.actions) ≡ map target_of l.actions;
  spelled : list_all is_query l.queries.items ≡ true;
}
