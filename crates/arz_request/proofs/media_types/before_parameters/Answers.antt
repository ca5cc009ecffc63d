use Rattle.std.proofs.Common.{arith, sym, ◌∙◌}
use Rattle.std.proofs.lemmas.Bool.Decides.{nat_tests}
use Rattle.std.proofs.lemmas.List.{take_all}
use Rattle.arz_request.proofs.Readings.{cut-here}
use Rattle.arz_request.proofs.media_types.before_parameters.Goals as goal

pub returns-then-byte-eq59 : goal.returns-then-byte-eq59
returns-then-byte-eq59 c =
    cut-here c.args.kind.now c.loop-i.i (omega arith) c.loop-i.invariant (λ _. grind (arith, nat_tests))

pub returns : goal.returns
returns c =
    sym (take_all c.loop-i.i c.args.kind.now (omega arith)) ∙ cut-here c.args.kind.now c.loop-i.i (omega arith) c.loop-i.invariant (λ lt. absurd (omega arith))
