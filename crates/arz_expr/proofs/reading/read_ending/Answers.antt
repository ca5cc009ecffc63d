use Rattle.std.proofs.Common.{◌≡◌, ◌∙◌, ap, sym, Some, None, option_map, arith}
use Rattle.arz_expr.specs.Reading.{tail_at, end_at}
use Rattle.arz_expr.proofs.Endings.{shorter}
use Rattle.arz_expr.proofs.Skips.{rest-text}
use Rattle.arz_expr.proofs.Steps.{goes-begun, goes-on, goes-end}
use Rattle.arz_expr.proofs.reading.read_ending.Goals as goal

pub steps-init : goal.steps-init
steps-init c = (rw c.new-tail.ensures (goes-begun c.args.text.now), c.utf8.text)

pub steps-smaller : goal.steps-smaller
steps-smaller c =
    let e : tail_at c.steps.rest.now ≡ Some (c.in-Some.step, c.in-Some.more.now) = grind (arith, c.in_ok-step.ensures, c.in-Some.is) in
    shorter c.steps.rest.now (c.in-Some.step, c.in-Some.more.now) e

pub steps-preserved : goal.steps-preserved
steps-preserved c =
    let e : tail_at c.steps.rest.now ≡ Some (c.in-Some.step, c.in-Some.more.now) = grind (arith, c.in_ok-step.ensures, c.in-Some.is) in
    (rw c.in_ok-push.ensures.ok (goes-on c.args.text.now c.steps.tail c.steps.rest.now (c.in-Some.step, c.in-Some.more.now) c.steps.invariant.0 e), rest-text c.steps.rest.now (c.in-Some.step, c.in-Some.more.now) c.steps.invariant.1 e)

pub returns-in_default-2 : goal.returns-in_default-2
returns-in_default-2 c =
    let e : tail_at c.steps.rest.now ≡ None = grind (arith, c.in_ok-step.ensures, c.in_default.is) in
    let p : end_at c.steps.rest.now ≡ None = grind (arith, c.in_ok-pointer.ensures, c.in_default-2.is) in
    sym (goes-end c.args.text.now c.steps.tail c.steps.rest.now c.steps.invariant.0 e ∙ ap (option_map (λ q. (c.steps.tail, q))) p)

pub returns : goal.returns
returns c =
    let e : tail_at c.steps.rest.now ≡ None = grind (arith, c.in_ok-step.ensures, c.in_default.is) in
    let p : end_at c.steps.rest.now ≡ Some c.in-Some-2.pointer = grind (arith, c.in_ok-pointer.ensures, c.in-Some-2.is) in
    sym (goes-end c.args.text.now c.steps.tail c.steps.rest.now c.steps.invariant.0 e ∙ ap (option_map (λ q. (c.steps.tail, q))) p)
