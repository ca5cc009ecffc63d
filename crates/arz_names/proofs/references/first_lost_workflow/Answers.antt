use Rattle.std.proofs.Common.{◌++◌, codes}
use Rattle.arz_rules.specs.Sites.{at}
use Rattle.arz_rules.specs.Sets.{has, bad_text}
use Rattle.arz_sites.specs.Sites.{only, items_of, workflows, steps, each_action}
use Rattle.arz_sites.proofs.Parts.{joined}
use Rattle.arz_names.proofs.references.first_lost_workflow.Goals as goal

pub returns : goal.returns
returns c =
    let known = bad_text (has c.args.workflows.now) in
    let root = c.args.root.now in
    let depends = at (workflows ++ items_of (codes "dependsOn")) known root in
    let runs = at (steps ++ only (codes "workflowId")) known root in
    joined (depends ++ runs) (each_action (at (only (codes "workflowId")) known) root) _ _ _ c.lesser.ensures
    (joined depends runs _ _ _ c.lesser-named.ensures c.in_ok-depends.ensures c.in_ok-runs.ensures)
    c.in_ok-actions.ensures
