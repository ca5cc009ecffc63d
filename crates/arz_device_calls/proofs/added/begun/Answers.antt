use Rattle.std.proofs.Common.{arith}
use Rattle.arz_device_calls.proofs.Spelt.{of_begun}
use Rattle.arz_device_calls.proofs.added.begun.Goals as goal

pub returns-clause-spells : goal.returns-clause-spells
returns-clause-spells c = of_begun c.args.number c.new.result.items (omega arith) c.new.ensures.items
