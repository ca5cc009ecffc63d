use Rattle.std.proofs.Common.{List, ℕ, subst}
use Rattle.std.specs.Prelude.{IfOk}
use Rattle.std.proofs.lemmas.Result.{IfOk-weaker}
use Rattle.arz_overlay.proofs.Targets.{Target, as_query}
use Rattle.arz_overlay.proofs.document.target_query.Goals as goal

pub returns : goal.returns
returns c =
    let P : List ℕ → Type 0 = λ t. IfOk c.if_query.result (Target t) in
    let read = c.read.ensures in
    subst P c.text_at.ensures
    (IfOk-weaker _ _ _ (λ o h. as_query c.text_at.result.now c.read.result o read.text read.spelled read.fault h) c.if_query.ensures)
