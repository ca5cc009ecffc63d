use Rattle.std.proofs.Common.{◌≡◌, true, ◌∙◌, arith}
use Rattle.arz_expr.specs.Reading.{is_index}
use Rattle.arz_expr.proofs.Numbers.{parsed}
use Rattle.arz_expr.proofs.names.index.Goals as goal

pub returns : goal.returns
returns c =
    let is : is_index c.args.digits.now ≡ true = grind (arith, c.is_index.ensures, c.as_bytes.ensures.value) in
    c.ok.ensures.value ∙ parsed _ _ c.parse.ensures.value.0 is
