use Rattle.std.proofs.Common.{◌≡◌, ◌-◌, length, Some, None, ◌∙◌, arith}
use Rattle.std.proofs.lemmas.Grind.{common_steps}
use Rattle.arz_query.specs.Words.{as_read}
use Rattle.arz_query.specs.Lexical.{after_pair}
use Rattle.arz_query.specs.Typing.{as_test}
use Rattle.arz_query.specs.Reading.{expr_at, all_of, item_of, tested, tests_as, segment_of, segment_start, selector_of, comma}
use Rattle.arz_query.specs.declared.query.Test.TheVariants.{Any, All}
use Rattle.arz_query.proofs.Lists.{list_none, list_stops, list_fails, list_takes}
use Rattle.arz_query.proofs.Chains.{tested_none, tested_some}
use Rattle.arz_query.proofs.reading.+read.Goals as goal

pub terms-returns-in_default : goal.terms-returns-in_default
terms-returns-in_default t c =
    let l = c.loop in
    let stop : comma l.all.rest.now ≡ None = grind arith in
    l.invariant ∙ list_stops (λ r. r) (length c.args.text.now) l.counter comma (expr_at c.args.room) (as_read l.all) (omega arith) stop

pub terms-returns : goal.terms-returns
terms-returns t c =
    let l = c.loop in
    l.invariant ∙ list_none (λ r. r) (length c.args.text.now - l.counter) comma (expr_at c.args.room) (as_read l.all) (omega arith)

pub terms-returns-in_err-other : goal.terms-returns-in_err-other
terms-returns-in_err-other t c =
    let l = c.loop in
    let step = list_fails (λ r. r) (length c.args.text.now) l.counter comma (expr_at c.args.room) (as_read l.all) c.in-Some.next.now (omega arith) (grind arith) in
    grind (arith, common_steps, l.invariant, step)

pub terms-loop-preserved : goal.terms-loop-preserved
terms-loop-preserved t c =
    let l = c.loop in
    let next : comma l.all.rest.now ≡ Some c.in-Some.next.now = grind arith in
    let one : expr_at c.args.room c.in-Some.next.now ≡ Some (as_read c.in_ok-other.other) = grind arith in
    l.invariant ∙ list_takes (λ r. r) (length c.args.text.now) l.counter comma (expr_at c.args.room) (as_read l.all) c.in-Some.next.now (as_read c.in_ok-other.other) _ (omega arith) next one c.in_ok-add.ensures

pub selectors-returns-in_default : goal.selectors-returns-in_default
selectors-returns-in_default t c =
    let l = c.loop in
    let stop : comma l.all.rest.now ≡ None = grind arith in
    l.invariant ∙ list_stops (λ r. r) (length c.args.text.now) l.counter comma (selector_of (expr_at c.args.room)) (as_read l.all) (omega arith) stop

pub selectors-returns : goal.selectors-returns
selectors-returns t c =
    let l = c.loop in
    l.invariant ∙ list_none (λ r. r) (length c.args.text.now - l.counter) comma (selector_of (expr_at c.args.room)) (as_read l.all) (omega arith)

pub selectors-returns-in_err-other : goal.selectors-returns-in_err-other
selectors-returns-in_err-other t c =
    let l = c.loop in
    let step = list_fails (λ r. r) (length c.args.text.now) l.counter comma (selector_of (expr_at c.args.room)) (as_read l.all) c.in-Some.next.now (omega arith) (grind arith) in
    grind (arith, common_steps, l.invariant, step)

pub selectors-loop-preserved : goal.selectors-loop-preserved
selectors-loop-preserved t c =
    let l = c.loop in
    let next : comma l.all.rest.now ≡ Some c.in-Some.next.now = grind arith in
    let one : selector_of (expr_at c.args.room) c.in-Some.next.now ≡ Some (as_read c.in_ok-other.other) = grind arith in
    l.invariant ∙ list_takes (λ r. r) (length c.args.text.now) l.counter comma (selector_of (expr_at c.args.room)) (as_read l.all) c.in-Some.next.now (as_read c.in_ok-other.other) _ (omega arith) next one c.in_ok-add.ensures

pub segments-returns-in_default : goal.segments-returns-in_default
segments-returns-in_default t c =
    let l = c.loop in
    let stop : segment_start l.all.rest.now ≡ None = grind arith in
    l.invariant ∙ list_stops (λ r. r) (length c.args.text.now) l.counter segment_start (segment_of (expr_at c.args.room)) (as_read l.all) (omega arith) stop

pub segments-returns : goal.segments-returns
segments-returns t c =
    let l = c.loop in
    l.invariant ∙ list_none (λ r. r) (length c.args.text.now - l.counter) segment_start (segment_of (expr_at c.args.room)) (as_read l.all) (omega arith)

pub segments-returns-in_err-other : goal.segments-returns-in_err-other
segments-returns-in_err-other t c =
    let l = c.loop in
    let step = list_fails (λ r. r) (length c.args.text.now) l.counter segment_start (segment_of (expr_at c.args.room)) (as_read l.all) c.in-Some.next.now (omega arith) (grind arith) in
    grind (arith, common_steps, l.invariant, step)

pub segments-loop-preserved : goal.segments-loop-preserved
segments-loop-preserved t c =
    let l = c.loop in
    let next : segment_start l.all.rest.now ≡ Some c.in-Some.next.now = grind arith in
    let one : segment_of (expr_at c.args.room) c.in-Some.next.now ≡ Some (as_read c.in_ok-other.other) = grind arith in
    l.invariant ∙ list_takes (λ r. r) (length c.args.text.now) l.counter segment_start (segment_of (expr_at c.args.room)) (as_read l.all) c.in-Some.next.now (as_read c.in_ok-other.other) _ (omega arith) next one c.in_ok-add.ensures

pub any-returns-in_default : goal.any-returns-in_default
any-returns-in_default t c =
    let l = c.loop in
    let stop : after_pair 124 l.tests.rest.now ≡ None = grind arith in
    let step = l.invariant ∙ list_stops (tests_as Any) (length c.args.text.now) l.counter (after_pair 124) (tested (all_of (expr_at c.args.room))) (as_read l.tests) (omega arith) stop in
    grind (arith, common_steps, step)

pub any-returns : goal.any-returns
any-returns t c =
    let l = c.loop in
    let step = l.invariant ∙ list_none (tests_as Any) (length c.args.text.now - l.counter) (after_pair 124) (tested (all_of (expr_at c.args.room))) (as_read l.tests) (omega arith) in
    grind (arith, common_steps, step)

pub any-returns-in_err-one-2 : goal.any-returns-in_err-one-2
any-returns-in_err-one-2 t c =
    let l = c.loop in
    let next : after_pair 124 l.tests.rest.now ≡ Some c.in-Some.next.now = grind arith in
    let none = tested_none (all_of (expr_at c.args.room)) c.in-Some.next.now in
    let step = list_fails (tests_as Any) (length c.args.text.now) l.counter (after_pair 124) (tested (all_of (expr_at c.args.room))) (as_read l.tests) c.in-Some.next.now (omega arith) next in
    grind (arith, common_steps, l.invariant, none, step)

pub any-returns-in_err-other : goal.any-returns-in_err-other
any-returns-in_err-other t c =
    let l = c.loop in
    let next : after_pair 124 l.tests.rest.now ≡ Some c.in-Some.next.now = grind arith in
    let read : all_of (expr_at c.args.room) c.in-Some.next.now ≡ Some (as_read c.in_ok-one-2.one) = grind arith in
    let some = tested_some (all_of (expr_at c.args.room)) c.in-Some.next.now (as_read c.in_ok-one-2.one) read in
    let step = list_fails (tests_as Any) (length c.args.text.now) l.counter (after_pair 124) (tested (all_of (expr_at c.args.room))) (as_read l.tests) c.in-Some.next.now (omega arith) next in
    grind (arith, common_steps, l.invariant, some, step)

pub any-loop-preserved : goal.any-loop-preserved
any-loop-preserved t c =
    let l = c.loop in
    let next : after_pair 124 l.tests.rest.now ≡ Some c.in-Some.next.now = grind arith in
    let read : all_of (expr_at c.args.room) c.in-Some.next.now ≡ Some (as_read c.in_ok-one-2.one) = grind arith in
    let test : as_test (length c.in-Some.next.now) (as_read c.in_ok-one-2.one) ≡ Some (as_read c.in_ok-other.other) = grind arith in
    let one = tested_some (all_of (expr_at c.args.room)) c.in-Some.next.now (as_read c.in_ok-one-2.one) read ∙ test in
    l.invariant ∙ list_takes (tests_as Any) (length c.args.text.now) l.counter (after_pair 124) (tested (all_of (expr_at c.args.room))) (as_read l.tests) c.in-Some.next.now (as_read c.in_ok-other.other) _ (omega arith) next one c.in_ok-add.ensures

pub all-returns-in_default : goal.all-returns-in_default
all-returns-in_default t c =
    let l = c.loop in
    let stop : after_pair 38 l.tests.rest.now ≡ None = grind arith in
    let step = l.invariant ∙ list_stops (tests_as All) (length c.args.text.now) l.counter (after_pair 38) (tested (item_of (expr_at c.args.room))) (as_read l.tests) (omega arith) stop in
    grind (arith, common_steps, step)

pub all-returns : goal.all-returns
all-returns t c =
    let l = c.loop in
    let step = l.invariant ∙ list_none (tests_as All) (length c.args.text.now - l.counter) (after_pair 38) (tested (item_of (expr_at c.args.room))) (as_read l.tests) (omega arith) in
    grind (arith, common_steps, step)

pub all-returns-in_err-one-2 : goal.all-returns-in_err-one-2
all-returns-in_err-one-2 t c =
    let l = c.loop in
    let next : after_pair 38 l.tests.rest.now ≡ Some c.in-Some.next.now = grind arith in
    let none = tested_none (item_of (expr_at c.args.room)) c.in-Some.next.now in
    let step = list_fails (tests_as All) (length c.args.text.now) l.counter (after_pair 38) (tested (item_of (expr_at c.args.room))) (as_read l.tests) c.in-Some.next.now (omega arith) next in
    grind (arith, common_steps, l.invariant, none, step)

pub all-returns-in_err-other : goal.all-returns-in_err-other
all-returns-in_err-other t c =
    let l = c.loop in
    let next : after_pair 38 l.tests.rest.now ≡ Some c.in-Some.next.now = grind arith in
    let read : item_of (expr_at c.args.room) c.in-Some.next.now ≡ Some (as_read c.in_ok-one-2.one) = grind arith in
    let some = tested_some (item_of (expr_at c.args.room)) c.in-Some.next.now (as_read c.in_ok-one-2.one) read in
    let step = list_fails (tests_as All) (length c.args.text.now) l.counter (after_pair 38) (tested (item_of (expr_at c.args.room))) (as_read l.tests) c.in-Some.next.now (omega arith) next in
    grind (arith, common_steps, l.invariant, some, step)

pub all-loop-preserved : goal.all-loop-preserved
all-loop-preserved t c =
    let l = c.loop in
    let next : after_pair 38 l.tests.rest.now ≡ Some c.in-Some.next.now = grind arith in
    let read : item_of (expr_at c.args.room) c.in-Some.next.now ≡ Some (as_read c.in_ok-one-2.one) = grind arith in
    let test : as_test (length c.in-Some.next.now) (as_read c.in_ok-one-2.one) ≡ Some (as_read c.in_ok-other.other) = grind arith in
    let one = tested_some (item_of (expr_at c.args.room)) c.in-Some.next.now (as_read c.in_ok-one-2.one) read ∙ test in
    l.invariant ∙ list_takes (tests_as All) (length c.args.text.now) l.counter (after_pair 38) (tested (item_of (expr_at c.args.room))) (as_read l.tests) c.in-Some.next.now (as_read c.in_ok-other.other) _ (omega arith) next one c.in_ok-add.ensures
