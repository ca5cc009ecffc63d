use Rattle.std.proofs.Common.{sym, subst}
use Rattle.arz_scope.specs.Shallow.{AreShallow}
use Rattle.arz_machine.proofs.Entering.{as_spoken}
use Rattle.arz_machine.proofs.Facts.{shallow_members}
use Rattle.arz_machine.proofs.run.Run.scope.Goals as goal

pub new-requires-clause-description : goal.new-requires-clause-description
new-requires-clause-description c = c.args.self.now.sound.arazzo

pub new-requires-clause-inputs : goal.new-requires-clause-inputs
new-requires-clause-inputs c = subst AreShallow (sym c.as_slice-inputs.ensures) (shallow_members c.args.self.now.bundle.now.inputs c.args.self.now.sound.inputs)

pub returns : goal.returns
returns c =
    as_spoken c.new.result c.args.self.now.bundle.now c.args.self.now.facts _ _ _ _ _ c.as_slice-inputs.ensures c.as_slice.ensures c.tried.ensures.exchange c.tried.ensures.inner c.new.ensures
