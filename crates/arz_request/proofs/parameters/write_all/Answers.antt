use Rattle.std.proofs.lemmas.Result.{err_from_is_err_and}
use Rattle.arz_request.proofs.Writing.{one-more, fails}
use Rattle.arz_request.proofs.parameters.write_all.Goals as goal

pub returns-in_err-write : goal.returns-in_err-write
returns-in_err-write g c =
    let l = c.loop-parameter in
    let p = err_from_is_err_and c.from_residual.result c.from_residual.ensures.1 in
    rw (p.1, p.2)
    (fails (g.S.Scope.found c.args.scope.now) c.args.described.now c.args.given.now l.parameter-index c.parameter-item.result l.all.items c.in_err-write.field-0.0
    c.loop-parameter-test.true c.parameter-item.is l.invariant c.in_err-write.ensures)

pub loop-parameter-preserved : goal.loop-parameter-preserved
loop-parameter-preserved g c =
    let l = c.loop-parameter in
    one-more (g.S.Scope.found c.args.scope.now) c.args.described.now c.args.given.now l.parameter-index c.parameter-item.result l.all.items c.push.new.self.items c.in_ok-write.field-0
    c.loop-parameter-test.true c.parameter-item.is l.invariant c.in_ok-write.ensures c.in_ok-push.ensures.items
