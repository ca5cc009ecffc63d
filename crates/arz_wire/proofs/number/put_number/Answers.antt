use Rattle.std.proofs.Common.{◌++◌, ◌+◌, ◌%◌, ◌/◌, sym, ap, ◌∙◌, refl, arith}
use Rattle.arz_wire.specs.Spelling.{number_within}
use Rattle.arz_wire.proofs.Layers.{pushed}
use Rattle.arz_wire.proofs.Numbers.{number_within-more, number_within-last}
use Rattle.arz_wire.proofs.number.put_number.Goals as goal

pub loop-rest-init : goal.loop-rest-init
loop-rest-init c = (9, omega arith, refl)

pub loop-rest-preserved : goal.loop-rest-preserved
loop-rest-preserved c =
    let inv = c.loop-rest.invariant in
    let more = number_within-more inv.0 c.loop-rest.rest (omega arith) inv.1 in
    let written = c.loop-rest.out.items in (
      more.0,
      more.1,
      pushed written _ (number_within more.0 (c.loop-rest.rest / 128)) (number_within inv.0 c.loop-rest.rest) (c.loop-rest.rest % 128 + 128) c.in_ok-push.ensures.items more.2 ∙ inv.2,
    )

pub returns : goal.returns
returns c =
    let inv = c.loop-rest.invariant in
    let last = number_within-last inv.0 c.loop-rest.rest (omega arith) in
    c.in_ok-push-2.ensures.items ∙ ap (λ l. c.loop-rest.out.items ++ l) (sym last) ∙ inv.2
