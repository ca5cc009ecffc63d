use Rattle.std.proofs.Common.{◌≡◌, ◌-◌, ◌*◌, ◌+◌, length}
use Rattle.arz_query.specs.Words.{as_read, items_at}
use Rattle.arz_query.specs.Lexical.{after_pair}
use Rattle.arz_query.specs.Reading.{expr_at, any_of, all_of, item_of, tested, tests_as, segments_of, segment_of, segment_start, selector_of, comma}
use Rattle.arz_query.specs.declared.query.Test.TheVariants.{Any, All}
use Rattle.arz_query.proofs.Lists.{goes_on}
use Rattle.arz_query.proofs.reading.+read.Given as goal

abbrev pub decreases-expr : goal.decreases-expr
decreases-expr l = 16 * l.room

abbrev pub decreases-any : goal.decreases-any
decreases-any l = 16 * l.room + 15

abbrev pub decreases-all : goal.decreases-all
decreases-all l = 16 * l.room + 14

abbrev pub decreases-item : goal.decreases-item
decreases-item l = 16 * l.room + 13

abbrev pub decreases-negated : goal.decreases-negated
decreases-negated l = 16 * l.room + 12

abbrev pub decreases-compared_or_alone : goal.decreases-compared_or_alone
decreases-compared_or_alone l = 16 * l.room + 11

abbrev pub decreases-term : goal.decreases-term
decreases-term l = 16 * l.room + 10

abbrev pub decreases-word : goal.decreases-word
decreases-word l = 16 * l.room + 9

abbrev pub decreases-arguments : goal.decreases-arguments
decreases-arguments l = 16 * l.room + 8

abbrev pub decreases-terms : goal.decreases-terms
decreases-terms l = 16 * l.room + 7

abbrev pub decreases-segments : goal.decreases-segments
decreases-segments l = 16 * l.room + 6

abbrev pub decreases-segment : goal.decreases-segment
decreases-segment l = 16 * l.room + 5

abbrev pub decreases-selection : goal.decreases-selection
decreases-selection l = 16 * l.room + 4

abbrev pub decreases-selectors : goal.decreases-selectors
decreases-selectors l = 16 * l.room + 3

abbrev pub decreases-selector : goal.decreases-selector
decreases-selector l = 16 * l.room + 2

abbrev pub decreases-group : goal.decreases-group
decreases-group l = 16 * l.room + 1

abbrev pub invariant-any-loop : goal.invariant-any-loop
invariant-any-loop l =
    any_of (expr_at l.room) l.text ≡ goes_on (tests_as Any) (length l.text - l.counter) (after_pair 124) (tested (all_of (expr_at l.room))) (as_read l.tests)

abbrev pub invariant-all-loop : goal.invariant-all-loop
invariant-all-loop l =
    all_of (expr_at l.room) l.text ≡ goes_on (tests_as All) (length l.text - l.counter) (after_pair 38) (tested (item_of (expr_at l.room))) (as_read l.tests)

abbrev pub invariant-terms-loop : goal.invariant-terms-loop
invariant-terms-loop l =
    items_at comma (expr_at l.room) l.text ≡ goes_on (λ r. r) (length l.text - l.counter) comma (expr_at l.room) (as_read l.all)

abbrev pub invariant-segments-loop : goal.invariant-segments-loop
invariant-segments-loop l =
    segments_of (expr_at l.room) l.text ≡ goes_on (λ r. r) (length l.text - l.counter) segment_start (segment_of (expr_at l.room)) (as_read l.all)

abbrev pub invariant-selectors-loop : goal.invariant-selectors-loop
invariant-selectors-loop l =
    items_at comma (selector_of (expr_at l.room)) l.text ≡ goes_on (λ r. r) (length l.text - l.counter) comma (selector_of (expr_at l.room)) (as_read l.all)
