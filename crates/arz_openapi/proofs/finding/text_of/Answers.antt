use Rattle.std.proofs.Common.{◌∙◌}
use Rattle.arz_openapi.proofs.Texts.{is_text, is_none}
use Rattle.arz_openapi.proofs.finding.text_of.Goals as goal

pub returns-in_ok-from_str-in-Ok : goal.returns-in_ok-from_str-in-Ok
returns-in_ok-from_str-in-Ok c =
    let text = c.in-Ok.ensures.cases in
    is_text c.args.bytes.now c.in_ok-from_str-in-Ok.field-0 (c.in_ok-from_str-in-Ok.ensures ∙ text.0) text.1

pub returns-in-Err : goal.returns-in-Err
returns-in-Err c = is_none c.args.bytes.now c.in-Err.ensures.cases.0
