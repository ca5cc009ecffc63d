use Rattle.std.proofs.Common.{arith}
use Rattle.std.proofs.lemmas.Str.Pattern.{split_parts}
use Rattle.arz_target.proofs.PathParts.{parts-all, cut-name, cut-open}
use Rattle.arz_target.proofs.paths.next_cut.Goals as goal

pub returns-in-None-clause-parts : goal.returns-in-None-clause-parts
returns-in-None-clause-parts c =
    parts-all c.args.path.now (rw c.in-None.is at (split_parts 123 c.args.path.now c.split_once.result c.split_once.ensures.cases (omega arith)))

pub returns-in-Some-name_of-clause-parts : goal.returns-in-Some-name_of-clause-parts
returns-in-Some-name_of-clause-parts c =
    let cut = rw c.in-Some.is at (split_parts 123 c.args.path.now c.split_once.result c.split_once.ensures.cases (omega arith)) in
    cut-name c.args.path.now _ c.in-Some.tail.now _ _ cut.0 cut.1 c.in-Some-name_of.ensures.name.0 c.in-Some-name_of.ensures.name.1

pub returns-in-None-name_of-clause-parts : goal.returns-in-None-name_of-clause-parts
returns-in-None-name_of-clause-parts c =
    let cut = rw c.in-Some.is at (split_parts 123 c.args.path.now c.split_once.result c.split_once.ensures.cases (omega arith)) in
    cut-open c.args.path.now _ c.in-Some.tail.now cut.0 cut.1 c.in-None-name_of.ensures.name
