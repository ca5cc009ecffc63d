use Rattle.std.proofs.Common.{arith}
use Rattle.std.proofs.lemmas.Str.Pattern.{split_parts}
use Rattle.arz_expr.proofs.Cutting.{pieces-all, cut-embedded, cut-plain}
use Rattle.arz_expr.proofs.pieces.next_cut.Goals as goal

pub returns-in_default-clause-cut : goal.returns-in_default-clause-cut
returns-in_default-clause-cut c =
    pieces-all c.args.text.now (rw c.in_default.is at (split_parts 125 c.args.text.now c.split_once.result c.split_once.ensures.cases (omega arith)))

pub returns-in-Some-2-clause-cut : goal.returns-in-Some-2-clause-cut
returns-in-Some-2-clause-cut c =
    let cut = rw c.in-Some.is at (split_parts 125 c.args.text.now c.split_once.result c.split_once.ensures.cases (omega arith)) in
    let found = rw c.in-Some-2.is at c.in_ok-plain.ensures in
    cut-embedded c.args.text.now c.in-Some.front.now c.in-Some.rest.now c.in-Some-2.plain.now found.0 c.in-Some-2.expr cut.0 cut.1 found.1 found.2

pub returns-in-None-clause-cut : goal.returns-in-None-clause-cut
returns-in-None-clause-cut c =
    let cut = rw c.in-Some.is at (split_parts 125 c.args.text.now c.split_once.result c.split_once.ensures.cases (omega arith)) in
    cut-plain c.args.text.now c.in-Some.front.now c.in-Some.rest.now cut.0 cut.1 (rw c.in-None.is at c.in_ok-plain.ensures)
