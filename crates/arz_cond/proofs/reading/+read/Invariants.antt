use Rattle.std.proofs.Common.{◌≡◌, ◌-◌, ◌*◌, ◌+◌, length}
use Rattle.arz_cond.specs.Words.{as_read, items_at}
use Rattle.arz_cond.specs.Reading.{after_pair, comparison_of, and_of, not_at}
use Rattle.arz_cond.proofs.Lists.{goes_on}
use Rattle.arz_cond.proofs.reading.+read.Given as goal

abbrev pub decreases-any : goal.decreases-any
decreases-any l = 8 * l.room + 6

abbrev pub decreases-ands : goal.decreases-ands
decreases-ands l = 8 * l.room + 5

abbrev pub decreases-all : goal.decreases-all
decreases-all l = 8 * l.room + 4

abbrev pub decreases-comparisons : goal.decreases-comparisons
decreases-comparisons l = 8 * l.room + 3

abbrev pub decreases-comparison : goal.decreases-comparison
decreases-comparison l = 8 * l.room + 2

abbrev pub decreases-operand : goal.decreases-operand
decreases-operand l = 8 * l.room + 1

abbrev pub invariant-ands-loop : goal.invariant-ands-loop
invariant-ands-loop l =
    items_at (after_pair 124) (and_of (not_at l.fractions l.room)) l.text ≡ goes_on (length l.text - l.counter) (after_pair 124) (and_of (not_at l.fractions l.room)) (as_read l.terms)

abbrev pub invariant-comparisons-loop : goal.invariant-comparisons-loop
invariant-comparisons-loop l =
    items_at (after_pair 38) (comparison_of (not_at l.fractions l.room)) l.text ≡ goes_on (length l.text - l.counter) (after_pair 38) (comparison_of (not_at l.fractions l.room)) (as_read l.terms)
