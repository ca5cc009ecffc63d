use Rattle.std.proofs.Common.{Err, ap, ◌∙◌}
use Rattle.arz_request.proofs.Puts.{put-nested}
use Rattle.arz_request.proofs.replacements.put_value.Goals as goal

pub returns-clause-replaced : goal.returns-clause-replaced
returns-clause-replaced c =
    let e = c.in-Err-TooNested in
    put-nested c.args.target.now c.args.tree.now c.args.value c.put.result e.field-0-0 (e.is ∙ ap Err e.field-0-is) c.put.ensures.ok.1 c.put.ensures.no_place.1
