use Rattle.std.proofs.Common.{arith}
use Rattle.std.proofs.lemmas.Str.Pattern.{split_parts}
use Rattle.arz_operation.proofs.Filling.{filled-all, filled-open, filled-cut}
use Rattle.arz_operation.proofs.servers.next_cut.Goals as goal

pub returns-in-None-clause-parts : goal.returns-in-None-clause-parts
returns-in-None-clause-parts c = λ vs.
    filled-all vs c.args.text.now (rw c.in-None.is at (split_parts 123 c.args.text.now c.split_once.result c.split_once.ensures.cases (omega arith)))

pub returns-in-None-split_once-clause-parts : goal.returns-in-None-split_once-clause-parts
returns-in-None-split_once-clause-parts c = λ vs.
    let cut = rw c.in-Some.is at (split_parts 123 c.args.text.now c.split_once.result c.split_once.ensures.cases (omega arith)) in
    filled-open vs c.args.text.now _ c.in-Some.inside.now cut.0 cut.1
    (rw c.in-None-split_once.is at (split_parts 125 c.in-Some.inside.now c.split_once-in-Some.result c.split_once-in-Some.ensures.cases (omega arith)))

pub returns-in-Some-split_once-clause-parts : goal.returns-in-Some-split_once-clause-parts
returns-in-Some-split_once-clause-parts c = λ vs.
    let cut = rw c.in-Some.is at (split_parts 123 c.args.text.now c.split_once.result c.split_once.ensures.cases (omega arith)) in
    let close = rw c.in-Some-split_once.is at (split_parts 125 c.in-Some.inside.now c.split_once-in-Some.result c.split_once-in-Some.ensures.cases (omega arith)) in
    filled-cut vs c.args.text.now _ c.in-Some.inside.now _ _ cut.0 cut.1 close.0 close.1
