use Rattle.std.proofs.Common.{arith}
use Rattle.arz_device_calls.proofs.Spelt.{of_held}
use Rattle.arz_device_calls.proofs.added.held_message.Goals as goal

pub returns-clause-spells : goal.returns-clause-spells
returns-clause-spells c = of_held c.args.number c.args.closed c.args.rest.items (omega arith)
