-- A text that is read gives its tree, and bytes that are none give nothing.
use Rattle.std.proofs.Common.{ap, sym, Err}
use Rattle.arz_probe.proofs.Trees.{tree_in-Reads, tree_in-none}
use Rattle.arz_probe.proofs.report.tree_of_text.Goals as goal

pub returns-in-Ok-clause-tree : goal.returns-in-Ok-clause-tree
returns-in-Ok-clause-tree c = sym (tree_in-Reads c.args.bytes.now c.in-Ok.tree c.in-Ok.ensures.ok.1)

pub returns-in-Err-NotJson-clause-tree : goal.returns-in-Err-NotJson-clause-tree
returns-in-Err-NotJson-clause-tree c =
    let refused = c.in-Err-NotJson.ensures.not_json (ap (λ e. Err e) c.in-Err-NotJson.field-0-is) in
    sym (tree_in-none c.args.bytes.now refused.1)
