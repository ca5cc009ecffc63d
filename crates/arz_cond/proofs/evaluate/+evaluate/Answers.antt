use Rattle.std.proofs.Common.{◌≡◌, ◌+◌, [], ◌∷◌, drop, true, false, arith}
use Rattle.std.proofs.lemmas.Grind.{common_steps}
use Rattle.arz_cond.proofs.Loops.{some_end, each_end, some_found, some_left, each_failed, each_left}
use Rattle.arz_cond.proofs.evaluate.+evaluate.Goals as goal

pub any_is_true-returns-then-is_true : goal.any_is_true-returns-then-is_true
any_is_true-returns-then-is_true g t c =
    let l = c.loop-term in
    let found = g.S.Scope.found c.args.scope.now in
    let xs = c.as_slice-term-items.result.now in
    let cut : drop l.term-index xs ≡ c.term-item.result ∷ drop (l.term-index + 1) xs = grind (arith, common_steps) in
    some_found found xs _ _ c.term-item.result cut c.in_ok-worth.worth c.in_ok-worth.ensures.seen c.is_true.result c.is_true.ensures
    c.args.terms.now c.as_slice-term-items.ensures l.invariant c.if-is_true.true

pub any_is_true-loop-term-preserved : goal.any_is_true-loop-term-preserved
any_is_true-loop-term-preserved g t c =
    let l = c.loop-term in
    let found = g.S.Scope.found c.args.scope.now in
    let xs = c.as_slice-term-items.result.now in
    let cut : drop l.term-index xs ≡ c.term-item.result ∷ drop (l.term-index + 1) xs = grind (arith, common_steps) in
    some_left found xs _ _ c.term-item.result cut c.in_ok-worth.worth c.in_ok-worth.ensures.seen c.is_true.result c.is_true.ensures l.invariant c.if-is_true.false

pub any_is_true-returns : goal.any_is_true-returns
any_is_true-returns g t c =
    let l = c.loop-term in
    let found = g.S.Scope.found c.args.scope.now in
    let none : drop l.term-index c.as_slice-term-items.result.now ≡ [] = grind (arith, common_steps) in
    some_end found c.args.terms.now _ _ c.as_slice-term-items.ensures l.invariant none

pub all_are_true-returns-then-not-is_true : goal.all_are_true-returns-then-not-is_true
all_are_true-returns-then-not-is_true g t c =
    let l = c.loop-term in
    let found = g.S.Scope.found c.args.scope.now in
    let xs = c.as_slice-term-items.result.now in
    let cut : drop l.term-index xs ≡ c.term-item.result ∷ drop (l.term-index + 1) xs = grind (arith, common_steps) in
    let no : c.is_true.result ≡ false = grind (arith, common_steps) in
    each_failed found xs _ _ c.term-item.result cut c.in_ok-worth.worth c.in_ok-worth.ensures.seen c.is_true.result c.is_true.ensures
    c.args.terms.now c.as_slice-term-items.ensures l.invariant no

pub all_are_true-loop-term-preserved : goal.all_are_true-loop-term-preserved
all_are_true-loop-term-preserved g t c =
    let l = c.loop-term in
    let found = g.S.Scope.found c.args.scope.now in
    let xs = c.as_slice-term-items.result.now in
    let cut : drop l.term-index xs ≡ c.term-item.result ∷ drop (l.term-index + 1) xs = grind (arith, common_steps) in
    let yes : c.is_true.result ≡ true = grind (arith, common_steps) in
    each_left found xs _ _ c.term-item.result cut c.in_ok-worth.worth c.in_ok-worth.ensures.seen c.is_true.result c.is_true.ensures l.invariant yes

pub all_are_true-returns : goal.all_are_true-returns
all_are_true-returns g t c =
    let l = c.loop-term in
    let found = g.S.Scope.found c.args.scope.now in
    let none : drop l.term-index c.as_slice-term-items.result.now ≡ [] = grind (arith, common_steps) in
    each_end found c.args.terms.now _ _ c.as_slice-term-items.ensures l.invariant none
