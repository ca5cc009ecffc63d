use Rattle.std.proofs.Common.{◌≡◌, Bool, true, false, not, ap, sym, ◌∙◌}
use Rattle.std.specs.Option.{is_none, is_some}
use Rattle.arz_request.specs.Payloads.{is_plain_text_of}
use Rattle.arz_request.proofs.Readings.{reading-is}
use Rattle.arz_request.proofs.body.is_plain_text.Goals as goal

turned : (b r : Bool) → b ≡ not r → r ≡ not b
turned b true e = ap not (sym e)
turned b false e = ap not (sym e)

pub returns : goal.returns
returns c =
    turned (is_some c.in_ok-expression.expression) c.is_none.result c.is_none.ensures
    ∙ ap is_none (reading-is c.in-Some.text.now c.in_ok-expression.expression c.in_ok-expression.ensures.reads c.in_ok-expression.ensures.complete)
    ∙ ap is_plain_text_of c.in-Some.ensures
