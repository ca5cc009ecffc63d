use Rattle.std.proofs.Common.{◌∙◌, Ok, IsTrue, sym, ap, subst}
use Rattle.arz_journal.specs.Logs.{LogView}
use Rattle.arz_journal.proofs.Nexts.{inside}
use Rattle.arz_probe.proofs.Listings.{step, falls}
use Rattle.arz_probe.proofs.journals.add_entries.Goals as goal

pub entries-preserved : goal.entries-preserved
entries-preserved g c =
    let moved = c.in_ok-entry.ensures.entry c.in-Some.entry (ap Ok c.in-Some.is) in
    record {
      told = subst IsTrue (sym c.next.ensures.looks.time.tells) c.entries.invariant.told;
      ready = c.next.ensures.ready;
      live = ap (λ (l : LogView). l.is_spent) moved ∙ c.entries.invariant.live;
      opened = ap (λ (l : LogView). l.is_open) moved ∙ c.entries.invariant.opened;
      file = c.next.ensures.looks.file ∙ c.entries.invariant.file;
      reads = step _ _ _ _ _ (g.W.World.told c.entries.world).file c.entries.log c.next.new.self c.in_ok-entry.field-0 c.in-Some.entry c.entries.invariant.file c.in-Some.is
          (c.in_ok-entry.ensures.reads c.entries.invariant.live c.entries.invariant.told) moved c.in_ok-add_entry.ensures c.entries.invariant.reads;
    }

pub entries-smaller : goal.entries-smaller
entries-smaller g c =
    let moved = c.in_ok-entry.ensures.entry c.in-Some.entry (ap Ok c.in-Some.is) in
    let stands = c.entries.invariant.ready c.entries.invariant.live c.entries.invariant.told in
    falls (g.W.World.told c.entries.world).file (g.W.World.told c.next.new.world).file c.entries.log.place c.next.new.self.place _ c.next.ensures.looks.file
    (inside c.entries.log.place c.entries.log.is_ended (g.W.World.told c.entries.world).file (stands.opened c.entries.invariant.opened)) (ap (λ (l : LogView). l.place) moved)
