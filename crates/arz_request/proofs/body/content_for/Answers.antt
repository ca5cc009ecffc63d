use Rattle.std.proofs.Common.{ap, ◌∙◌}
use Rattle.std.proofs.lemmas.Result.{err_from_is_err_and}
use Rattle.arz_request.specs.MediaTypes.{media_type_of}
use Rattle.arz_request.proofs.Contents.{value-fails, bytes-fail, made}
use Rattle.arz_request.proofs.body.content_for.Goals as goal

pub returns-in_err-payload-clause-content : goal.returns-in_err-payload-clause-content
returns-in_err-payload-clause-content g c =
    let p = err_from_is_err_and c.from_residual-in_err-payload.result c.from_residual-in_err-payload.ensures.1 in
    rw (p.1, p.2)
    (value-fails (g.S.Scope.found c.args.scope.now) c.args.types.now c.args.body.now c.in_ok-kind.kind c.in_ok-media.media c.in_err-payload.field-0.0
    c.in_ok-kind.ensures (c.in_ok-media.ensures ∙ ap media_type_of c.as_str.ensures) c.in_err-payload.ensures.value)

pub returns-in_err-bytes-clause-content : goal.returns-in_err-bytes-clause-content
returns-in_err-bytes-clause-content g c =
    let p = err_from_is_err_and c.from_residual-in_err-bytes.result c.from_residual-in_err-bytes.ensures.1 in
    rw (p.1, p.2)
    (bytes-fail (g.S.Scope.found c.args.scope.now) c.args.types.now c.args.body.now c.in_ok-kind.kind c.in_ok-media.media c.in_err-bytes.field-0.0 c.in_ok-payload.payload
    c.in_ok-kind.ensures (c.in_ok-media.ensures ∙ ap media_type_of c.as_str.ensures) c.in_ok-payload.ensures.value (rw c.as_str-2.ensures at c.in_err-bytes.ensures))

pub returns-clause-content : goal.returns-clause-content
returns-clause-content g c =
    made (g.S.Scope.found c.args.scope.now) c.args.types.now c.args.body.now c.in_ok-kind.kind c.in_ok-media.media c.in_ok-payload.payload c.in_ok-bytes.bytes
    c.in_ok-kind.ensures (c.in_ok-media.ensures ∙ ap media_type_of c.as_str.ensures) c.in_ok-payload.ensures.value (rw c.as_str-2.ensures at c.in_ok-bytes.ensures)
