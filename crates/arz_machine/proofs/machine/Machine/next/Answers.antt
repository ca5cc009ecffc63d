use Rattle.std.proofs.Common.{ap}
use Rattle.arz_machine.specs.At.{standing}
use Rattle.arz_machine.specs.Resting.{rest_of}
use Rattle.arz_machine.proofs.MachineAt.{lacks_reply, is_over}
use Rattle.arz_machine.proofs.machine.Machine.next.Goals as goal

pub returns-in-Sends-clause-tells : goal.returns-in-Sends-clause-tells
returns-in-Sends-clause-tells c = λ told b r at t. lacks_reply told (standing c.args.self.now) b r at _ (ap rest_of c.in-Sends.is) t

pub returns-in-Ended-clause-tells : goal.returns-in-Ended-clause-tells
returns-in-Ended-clause-tells c = λ told b r at t. let over = is_over told (standing c.args.self.now) b r at _ (ap rest_of c.in-Ended.is) in (over.end t, over.settled)
