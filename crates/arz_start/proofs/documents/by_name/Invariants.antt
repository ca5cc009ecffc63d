use Rattle.std.proofs.Common.{◌≡◌, [], map, drop}
use Rattle.arz_start.specs.StartTree.{entered, seen_entry}
use Rattle.arz_start.proofs.documents.by_name.Given as goal

abbrev pub invariant-loop-source : goal.invariant-loop-source
invariant-loop-source l = entered (map seen_entry l.found.entries) (drop l.source-index l.sources) ≡ entered [] l.sources
