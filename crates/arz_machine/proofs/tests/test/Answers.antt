use Rattle.arz_cond.specs.Criteria.{criterion_at}
use Rattle.arz_cond.proofs.Functions.{read_kind, read_context}
use Rattle.arz_machine.proofs.tests.test.Goals as goal

pub of-requires-clause-kind : goal.of-requires-clause-kind
of-requires-clause-kind c = read_kind (criterion_at c.args.criterion.now) c.requires

pub of-requires-clause-context : goal.of-requires-clause-context
of-requires-clause-context c = read_context (criterion_at c.args.criterion.now) c.requires
