use Rattle.arz_scope.proofs.TextLemmas.{text_of-utf8, text_of-not}
use Rattle.arz_scope.proofs.fields.text_of.Goals as goal

pub returns-in_ok-from_str-in-Ok : goal.returns-in_ok-from_str-in-Ok
returns-in_ok-from_str-in-Ok c =
    let text = c.in-Ok.ensures.cases in
    rw (c.in_ok-from_str-in-Ok.ensures, text.0) (text_of-utf8 c.args.bytes.now text.1)

pub returns-in-Err : goal.returns-in-Err
returns-in-Err c = text_of-not c.args.bytes.now c.in-Err.ensures.cases.0
