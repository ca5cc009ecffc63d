use Rattle.std.proofs.Common.{◌≡◌, ◌-◌, length, IsTrue, true, false}
use Rattle.arz_journal.specs.Logs.{Ready}
use Rattle.arz_probe.proofs.Listings.{Reads}
use Rattle.arz_probe.proofs.journals.add_entries.Given as goal

abbrev pub invariant-entries : goal.invariant-entries
invariant-entries g l = record {
  told : IsTrue (g.W.World.told l.world).tells;
  ready : Ready l.log (g.W.World.told l.world);
  live : l.log.is_spent ≡ false;
  opened : l.log.is_open ≡ true;
  file : (g.W.World.told l.world).file ≡ (g.W.World.told l.initial.world).file;
  reads : Reads l.initial.text.items (g.W.World.told l.initial.world).file l.initial.log.place l.text.items l.log.place;
}

abbrev pub decreases-entries : goal.decreases-entries
decreases-entries g l = length (g.W.World.told l.world).file - l.log.place
