-- The query is refused, or it selects.
use Rattle.std.proofs.Common.{◌≡◌, sym, subst, ◌∙◌, Some}
use Rattle.std.proofs.lemmas.Result.{IfOk-weaker}
use Rattle.arz_query.specs.Answers.{Spells}
use Rattle.arz_probe.specs.Reports.{tree_in}
use Rattle.arz_probe.specs.Selections.{refusal, selection}
use Rattle.arz_probe.proofs.query_report.path_report.Goals as goal

pub returns-in-Ok : goal.returns-in-Ok
returns-in-Ok g c =
    let root : tree_in c.args.bytes.now ≡ Some c.in-Some.root = sym c.in_ok-root.ensures.tree ∙ c.in-Some.is in
    let spelled = c.in-Ok.ensures.spelled in
    let spells = subst (λ t. Spells t spelled.segments) c.in-Ok.ensures.text spelled.spells in
    IfOk-weaker _ _ _ (λ r prints. selection c.in-Some.root spelled.segments root spells prints)
    (c.selection.ensures spelled.segments spelled.spells)

pub returns : goal.returns
returns g c =
    let root : tree_in c.args.bytes.now ≡ Some c.in-Some.root = sym c.in_ok-root.ensures.tree ∙ c.in-Some.is in
    IfOk-weaker _ _ _ (λ r line. refusal c.in-Some.root c.in-Err.fault root c.in-Err.ensures.fault line.1 line.0) c.fault_report.ensures
