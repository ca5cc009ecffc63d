use Rattle.std.proofs.Common.{◌++◌, ◌∷◌, [], Ok, string_bytes, sym, ap, ◌∙◌}
use Rattle.arz_expr.specs.Filling.{Embedded, Byte}
use Rattle.arz_expr.proofs.Joins.{joined-cut}
use Rattle.arz_expr.proofs.pieces.push_cut.Goals as goal

pub returns-in_ok-push_str-in-None : goal.returns-in_ok-push_str-in-None
returns-in_ok-push_str-in-None g c =
    let found = g.S.Scope.found c.args.scope.now in
    rw c.in-None.is (joined-cut found (string_bytes c.args.out.now) c.args.cut.now.plain.now (Byte 125)
    ∙ ap Ok (sym (c.in_ok-push_str-in-None.ensures.bytes ∙ ap (λ t. t ++ 125 ∷ []) c.in_ok-push_str.ensures.bytes)))

pub returns-in-Some : goal.returns-in-Some
returns-in-Some g c =
    let found = g.S.Scope.found c.args.scope.now in
    let old = string_bytes c.args.out.now in
    let plain = c.args.cut.now.plain.now in
    let e = c.in-Some.expr in
    let all = joined-cut found old plain (Embedded e) in
    rw (c.in-Some.is, all) (rw c.in_ok-push_str.ensures.bytes at c.push_value.ensures)
