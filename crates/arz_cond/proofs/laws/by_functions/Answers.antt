use Rattle.arz_cond.proofs.Functions.{means_outcome, reads_unless_fault, refuses_by_its_fault}
use Rattle.arz_cond.proofs.laws.by_functions.Goals as goal

pub returns-clause-means : goal.returns-clause-means
returns-clause-means c = means_outcome

pub returns-clause-reads : goal.returns-clause-reads
returns-clause-reads c = reads_unless_fault

pub returns-clause-refuses : goal.returns-clause-refuses
returns-clause-refuses c = refuses_by_its_fault
