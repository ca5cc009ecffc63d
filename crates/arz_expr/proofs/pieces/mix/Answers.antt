use Rattle.std.proofs.Common.{◌++◌, Ok, string_bytes, sym, ap, ◌∙◌}
use Rattle.std.proofs.lemmas.Result.{err_from_is_err_and}
use Rattle.arz_expr.specs.Filling.{mapped, joined, mixed}
use Rattle.arz_expr.specs.Cuts.{pieces_to}
use Rattle.arz_json.proofs.Answer.{fails}
use Rattle.arz_expr.specs.Cuts.{told}
use Rattle.arz_expr.proofs.Joins.{mix-on, mix-stops, mix-done}
use Rattle.arz_expr.proofs.pieces.mix.Goals as goal

pub returns-in_err-push_cut : goal.returns-in_err-push_cut
returns-in_err-push_cut g c =
    let found = g.S.Scope.found c.args.scope.now in
    let out = string_bytes c.pieces.out in
    let cut = c.in-Some.cut in
    let parts = rw c.in-Some.is at c.in_ok-cut.ensures.cut in
    let p = err_from_is_err_and c.from_residual-in_err-push_cut.result c.from_residual-in_err-push_cut.ensures.1 in
    rw (p.1, p.2) (fails (told c.in_err-push_cut.field-0.0) (mapped (λ t. out ++ t) (joined found (pieces_to cut))) (mixed found c.args.text.now)
    (λ f e. sym c.pieces.invariant.0 ∙ mix-stops found out c.pieces.rest.now cut.rest.now (pieces_to cut) f parts.0 e)
    c.in_err-push_cut.ensures)

pub pieces-preserved-in_ok-push_cut : goal.pieces-preserved-in_ok-push_cut
pieces-preserved-in_ok-push_cut g c =
    let found = g.S.Scope.found c.args.scope.now in
    let cut = c.in-Some.cut in
    let parts = rw c.in-Some.is at c.in_ok-cut.ensures.cut in (
      mix-on found (string_bytes c.pieces.out) (string_bytes c.push_cut.new.out) c.pieces.rest.now cut.rest.now (pieces_to cut) parts.0 c.in_ok-push_cut.ensures ∙ c.pieces.invariant.0,
      rw c.in-Some.is at c.in_ok-cut.ensures.text,
    )

pub pieces-preserved-in_ok-push_cut-2 : goal.pieces-preserved-in_ok-push_cut-2
pieces-preserved-in_ok-push_cut-2 g c =
    let found = g.S.Scope.found c.args.scope.now in
    let cut = c.in-Some.cut in
    let parts = rw c.in-Some.is at c.in_ok-cut.ensures.cut in (
      mix-on found (string_bytes c.pieces.out) (string_bytes c.push_cut.new.out) c.pieces.rest.now cut.rest.now (pieces_to cut) parts.0 c.in_ok-push_cut.ensures ∙ c.pieces.invariant.0,
      rw c.in-Some.is at c.in_ok-cut.ensures.text,
    )

pub pieces-preserved : goal.pieces-preserved
pieces-preserved g c =
    let found = g.S.Scope.found c.args.scope.now in
    let cut = c.in-Some.cut in
    let parts = rw c.in-Some.is at c.in_ok-cut.ensures.cut in (
      mix-on found (string_bytes c.pieces.out) (string_bytes c.push_cut.new.out) c.pieces.rest.now cut.rest.now (pieces_to cut) parts.0 c.in_ok-push_cut.ensures ∙ c.pieces.invariant.0,
      rw c.in-Some.is at c.in_ok-cut.ensures.text,
    )

pub returns : goal.returns
returns g c =
    let found = g.S.Scope.found c.args.scope.now in
    let all = rw c.in_default.is at c.in_ok-cut.ensures.cut in
    sym c.pieces.invariant.0 ∙ mix-done found (string_bytes c.pieces.out) c.pieces.rest.now all ∙ ap Ok (sym c.in_ok-push_str.ensures.bytes)
