use Rattle.std.proofs.Common.{◌≡◌, true}
use Rattle.arz_journal.specs.Logs.{Ready}
use Rattle.arz_device_calls.proofs.journals.read_all.Given as goal

abbrev pub invariant-entries : goal.invariant-entries
invariant-entries g l = Ready l.log (g.W.World.told l.world) × (l.log.is_open ≡ true)
