use Rattle.arz_components.specs.Indexes.{finds}
use Rattle.arz_components.specs.declared.components.Part.TheVariants as Part
use Rattle.arz_actions.proofs.actions.Actions.component.Goals as goal

pub invariant_of-self : goal.invariant_of-self
invariant_of-self c = record {
  success_read = c.shared.ensures.known (finds c.args.self.now.components.now Part.SuccessActions) (rw c.in-SuccessActions.is at c.requires.found) c.args.self.now.success_read;
  failure_read = c.args.self.now.failure_read;
}

pub invariant_of-self-in-FailureActions : goal.invariant_of-self-in-FailureActions
invariant_of-self-in-FailureActions c = record {
  success_read = c.args.self.now.success_read;
  failure_read = c.shared-in-FailureActions.ensures.known (finds c.args.self.now.components.now Part.FailureActions) (rw c.in-FailureActions.is at c.requires.found) c.args.self.now.failure_read;
}
