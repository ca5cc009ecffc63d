use Rattle.std.proofs.Common.{◌≡◌, ◌-◌, length, drop, map}
use Rattle.arz_description.specs.Parts.{text_in_item}
use Rattle.arz_scope.specs.Speaking.{completions_after}
use Rattle.arz_runs.specs.Fronts.{unrecorded}
use Rattle.arz_runs.proofs.depending.next_dependency.Given as goal

abbrev pub decreases-loop-index : goal.decreases-loop-index
decreases-loop-index l = length l.dependencies - l.index

abbrev pub invariant-loop-index : goal.invariant-loop-index
invariant-loop-index l = unrecorded (completions_after l.newly l.done) (drop l.index (map text_in_item l.dependencies)) ≡ unrecorded (completions_after l.newly l.done) (drop l.fn.from (map text_in_item l.dependencies))
