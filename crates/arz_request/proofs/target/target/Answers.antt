use Rattle.std.proofs.lemmas.Result.{err_from_is_err_and}
use Rattle.arz_request.proofs.Sizes.{path-fits}
use Rattle.arz_request.proofs.target.target.Goals as goal

pub returns-in_err-path : goal.returns-in_err-path
returns-in_err-path c =
    let p = err_from_is_err_and c.from_residual.result c.from_residual.ensures.1 in
    rw (p.1, p.2) (path-fits _ _ c.in_err-path.field-0.0 c.in_err-path.ensures)
