use Rattle.std.proofs.Common.{◌∙◌}
use Rattle.arz_scope.proofs.LatestLemmas.{completion-newest, completion-before, completion-shallow, newest-shallow}
use Rattle.arz_scope.proofs.remembered.Remembered.last_completion.Goals as goal

pub returns-in-Some-clause-value : goal.returns-in-Some-clause-value
returns-in-Some-clause-value c =
    completion-newest c.args.workflow.now c.args.self.now.newly.now c.args.self.now.done.now c.in-Some.completion.now c.in-Some.ensures

pub returns-in-Some-clause-shallow : goal.returns-in-Some-clause-shallow
returns-in-Some-clause-shallow c =
    λ s. newest-shallow c.args.workflow.now c.args.self.now.newly.now c.in-Some.completion.now c.in-Some.ensures s.newly

pub returns-in-None-clause-value : goal.returns-in-None-clause-value
returns-in-None-clause-value c =
    c.completion_among.ensures ∙ completion-before c.args.workflow.now c.args.self.now.newly.now c.args.self.now.done.now c.in-None.ensures

pub returns-in-None-clause-shallow : goal.returns-in-None-clause-shallow
returns-in-None-clause-shallow c =
    λ s. completion-shallow c.args.workflow.now c.args.self.now.done.now c.completion_among.result c.completion_among.ensures s.done
