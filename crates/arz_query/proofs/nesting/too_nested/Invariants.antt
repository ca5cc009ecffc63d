use Rattle.std.proofs.Common.{◌≡◌, ◌≤◌, drop}
use Rattle.arz_query.specs.Nesting.{at_start, too_nested_from}
use Rattle.arz_query.proofs.nesting.too_nested.Given as goal

abbrev pub invariant-loop-at : goal.invariant-loop-at
invariant-loop-at l = (too_nested_from 0 at_start l.text ≡ too_nested_from l.at l.count (drop l.at l.text)) × (l.count.open_now ≤ 64)
