use Rattle.std.proofs.Common.{◌≡◌, ◌-◌, length, Some, None, ◌∙◌, arith}
use Rattle.std.proofs.lemmas.Grind.{common_steps}
use Rattle.arz_cond.specs.Words.{as_read}
use Rattle.arz_cond.specs.Reading.{after_pair, comparison_of, and_of, not_at}
use Rattle.arz_cond.proofs.Lists.{list_none, list_stops, list_fails, list_takes}
use Rattle.arz_cond.proofs.reading.+read.Goals as goal

pub ands-returns-in_default : goal.ands-returns-in_default
ands-returns-in_default t c =
    let l = c.loop in
    let stop : after_pair 124 l.terms.rest.now ≡ None = grind arith in
    l.invariant ∙ list_stops (length c.args.text.now) l.counter (after_pair 124) (and_of (not_at c.args.fractions c.args.room)) (as_read l.terms) (omega arith) stop

pub ands-returns : goal.ands-returns
ands-returns t c =
    let l = c.loop in
    l.invariant ∙ list_none (length c.args.text.now - l.counter) (after_pair 124) (and_of (not_at c.args.fractions c.args.room)) (as_read l.terms) (omega arith)

pub ands-returns-in_err-other : goal.ands-returns-in_err-other
ands-returns-in_err-other t c =
    let l = c.loop in
    let step = list_fails (length c.args.text.now) l.counter (after_pair 124) (and_of (not_at c.args.fractions c.args.room)) (as_read l.terms) c.in-Some.next.now (omega arith) (grind arith) in
    grind (arith, common_steps, l.invariant, step)

pub ands-loop-preserved : goal.ands-loop-preserved
ands-loop-preserved t c =
    let l = c.loop in
    let next : after_pair 124 l.terms.rest.now ≡ Some c.in-Some.next.now = grind arith in
    let one : and_of (not_at c.args.fractions c.args.room) c.in-Some.next.now ≡ Some (as_read c.in_ok-other.other) = grind arith in
    l.invariant ∙ list_takes (length c.args.text.now) l.counter (after_pair 124) (and_of (not_at c.args.fractions c.args.room)) (as_read l.terms) c.in-Some.next.now (as_read c.in_ok-other.other) _ (omega arith) next one c.in_ok-add.ensures

pub comparisons-returns-in_default : goal.comparisons-returns-in_default
comparisons-returns-in_default t c =
    let l = c.loop in
    let stop : after_pair 38 l.terms.rest.now ≡ None = grind arith in
    l.invariant ∙ list_stops (length c.args.text.now) l.counter (after_pair 38) (comparison_of (not_at c.args.fractions c.args.room)) (as_read l.terms) (omega arith) stop

pub comparisons-returns : goal.comparisons-returns
comparisons-returns t c =
    let l = c.loop in
    l.invariant ∙ list_none (length c.args.text.now - l.counter) (after_pair 38) (comparison_of (not_at c.args.fractions c.args.room)) (as_read l.terms) (omega arith)

pub comparisons-returns-in_err-other : goal.comparisons-returns-in_err-other
comparisons-returns-in_err-other t c =
    let l = c.loop in
    let step = list_fails (length c.args.text.now) l.counter (after_pair 38) (comparison_of (not_at c.args.fractions c.args.room)) (as_read l.terms) c.in-Some.next.now (omega arith) (grind arith) in
    grind (arith, common_steps, l.invariant, step)

pub comparisons-loop-preserved : goal.comparisons-loop-preserved
comparisons-loop-preserved t c =
    let l = c.loop in
    let next : after_pair 38 l.terms.rest.now ≡ Some c.in-Some.next.now = grind arith in
    let one : comparison_of (not_at c.args.fractions c.args.room) c.in-Some.next.now ≡ Some (as_read c.in_ok-other.other) = grind arith in
    l.invariant ∙ list_takes (length c.args.text.now) l.counter (after_pair 38) (comparison_of (not_at c.args.fractions c.args.room)) (as_read l.terms) c.in-Some.next.now (as_read c.in_ok-other.other) _ (omega arith) next one c.in_ok-add.ensures
