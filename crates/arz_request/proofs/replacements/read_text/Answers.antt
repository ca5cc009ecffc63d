use Rattle.std.proofs.Common.{Some, ok_or, ap, sym, ◌∙◌}
use Rattle.arz_request.specs.Payloads.{read_text}
use Rattle.arz_request.specs.declared.cause.Cause.TheVariants.{PayloadTarget}
use Rattle.arz_request.proofs.Readings.{json_of-read}
use Rattle.arz_request.proofs.replacements.read_text.Goals as goal

pub returns-in-Ok-clause-read : goal.returns-in-Ok-clause-read
returns-in-Ok-clause-read c =
    ap read_text (sym c.in-Some.ensures ∙ ap Some (sym c.as_bytes.ensures.value))
    ∙ ap (λ o. ok_or o PayloadTarget) (json_of-read c.as_bytes.result.now c.in-Ok.tree c.in-Ok.ensures.ok.1)
