use Rattle.std.proofs.Common.{◌≡◌, Some, option_and_then, option_copied, ap, sym, ◌∙◌}
use Rattle.arz_json.specs.Look.{text_in}
use Rattle.arz_expr.specs.Reading.{reading}
use Rattle.arz_description.proofs.Expressions.{is_reading}
use Rattle.arz_description.proofs.outputs.read_expression.Goals as goal

pub returns-in_ok-found-in-Some : goal.returns-in_ok-found-in-Some
returns-in_ok-found-in-Some c =
    let e : Some c.in-Some.text.now ≡ text_in c.args.value.now = ap option_copied (sym c.in-Some.is) ∙ c.as_text.ensures in
    is_reading c.in-Some.text.now c.in_ok-found-in-Some.found c.in_ok-found-in-Some.ensures.reads c.in_ok-found-in-Some.ensures.complete ∙ ap (option_and_then reading) e
