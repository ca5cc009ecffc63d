use Rattle.arz_relation.proofs.Budget.{sends_kept, sends_left, waits_kept, budget_spent}
use Rattle.arz_relation.proofs.laws.budget.Goals as goal

pub returns : goal.returns
returns g c = let told = (g.P.Patterns.patterns c.args.rx.now).told in record { kept = sends_kept told; left = sends_left told; waits = waits_kept told; spent = budget_spent told }
