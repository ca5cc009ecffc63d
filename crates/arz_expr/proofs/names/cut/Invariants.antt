use Rattle.std.proofs.Common.{◌≡◌, ℕ, ◌<◌, ◌≤◌, ◌-◌, length, get_or, take, true}
use Rattle.std.specs.List.{list_all}
use Rattle.arz_expr.specs.Grammar.{is_name_byte}
use Rattle.arz_expr.proofs.names.cut.Given as goal

abbrev pub invariant-loop-end : goal.invariant-loop-end
invariant-loop-end l = (l.end ≤ length l.bytes) × (list_all is_name_byte (take l.end l.bytes) ≡ true) × ((k : ℕ) → k < l.end → get_or l.bytes k 0 < 128)

abbrev pub decreases-loop-end : goal.decreases-loop-end
decreases-loop-end l = length l.bytes - l.end
