use Rattle.std.proofs.Common.{◌≡◌, true, ◌∙◌, arith}
use Rattle.arz_cond.specs.Comparing.{is_numeral}
use Rattle.arz_cond.proofs.Integers.{parsed}
use Rattle.arz_cond.proofs.compare.numeral.Goals as goal

pub returns : goal.returns
returns c =
    let is : is_numeral c.args.digits.now ≡ true = grind (arith, c.is_numeral.ensures) in
    c.ok.ensures.value ∙ parsed _ _ c.parse.ensures.value.0 is
