use Rattle.std.proofs.lemmas.Result.{err_from_is_err_and}
use Rattle.arz_request.proofs.Sizes.{too-large}
use Rattle.arz_request.proofs.requests.make.Goals as goal

pub returns-in_err-target-clause-builds : goal.returns-in_err-target-clause-builds
returns-in_err-target-clause-builds c =
    let p = err_from_is_err_and c.from_residual.result c.from_residual.ensures.1 in
    rw (p.1, p.2) (too-large c.args.operation.now c.args.server.now c.args.written.items c.args.content c.in_err-target.field-0.0 (rw c.as_slice.ensures.value at c.in_err-target.ensures))
