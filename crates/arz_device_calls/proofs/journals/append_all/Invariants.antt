use Rattle.std.proofs.Common.{◌≡◌, true}
use Rattle.arz_journal.specs.Logs.{Ready}
use Rattle.arz_device_calls.proofs.journals.append_all.Given as goal

abbrev pub invariant-loop-entry : goal.invariant-loop-entry
invariant-loop-entry g l = Ready l.log (g.W.World.told l.world) × (l.log.is_open ≡ true) × (l.log.is_ended ≡ true)
