use Rattle.std.proofs.Common.{◌≡◌, map, take}
use Rattle.arz_components.specs.Indexes.{finds}
use Rattle.arz_description.specs.Parts.{meant}
use Rattle.arz_actions.specs.Ready.{ready_of, readies}
use Rattle.arz_actions.proofs.actions.Actions.list.Given as goal

abbrev pub invariant-loop-item : goal.invariant-loop-item
invariant-loop-item l = record {
  read : readies l.list.items ≡ map ready_of (map (meant (finds l.fn.self.components.now) l.part) (take l.item-index l.items));
  same : l.self.components.now ≡ l.fn.self.components.now;
}
