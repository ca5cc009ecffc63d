use Rattle.std.proofs.Common.{ap}
use Rattle.arz_machine.specs.At.{standing}
use Rattle.arz_machine.specs.Resting.{rest_of}
use Rattle.arz_machine.proofs.MachineAt.{lacks_reply, is_over}
use Rattle.arz_machine.proofs.machine.Machine.into_end.Goals as goal

pub returns-in-Sends-clause-end : goal.returns-in-Sends-clause-end
returns-in-Sends-clause-end c = λ told b r at t. lacks_reply told (standing c.args.self) b r at _ (ap rest_of c.in-Sends.is) t

pub returns-clause-end : goal.returns-clause-end
returns-clause-end c = λ told b r at t. (is_over told (standing c.args.self) b r at _ (ap rest_of c.in-Ended.is)).end t
