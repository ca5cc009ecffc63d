use Rattle.std.proofs.Common.{◌++◌, codes}
use Rattle.arz_rules.specs.Sites.{at, at_each}
use Rattle.arz_rules.specs.Sets.{bad_text}
use Rattle.arz_sites.specs.Sites.{only, steps, values, each_criterion}
use Rattle.arz_sites.specs.Wants.{fits, outputs}
use Rattle.arz_contents.specs.Contents.{bad_context, bad_texts}
use Rattle.arz_sites.specs.declared.checks.Wanted.TheVariants.{Expression, OperationPath}
use Rattle.arz_sites.proofs.Parts.{joined, on_sites}
use Rattle.arz_contents.proofs.values.first_bad_expression.Goals as goal

pub returns : goal.returns
returns c =
    let root = c.args.root.now in
    let results = at_each outputs (bad_text (fits Expression)) root in
    let contexts = each_criterion bad_context root in
    let texts = at_each values bad_texts root in
    let paths = at (steps ++ only (codes "operationPath")) (bad_text (fits OperationPath)) root in
    joined (results ++ contexts ++ texts) paths _ _ _ c.lesser.ensures
    (joined (results ++ contexts) texts _ _ _ c.lesser-given.ensures
    (joined results contexts _ _ _ c.lesser-written.ensures
    (on_sites (bad_text (fits Expression)) root outputs _ _ c.outputs.ensures c.in_ok-results.ensures)
    c.in_ok-contexts.ensures)
    (on_sites bad_texts root values _ _ c.values.ensures c.in_ok-texts.ensures))
    c.in_ok-paths.ensures
