use Rattle.std.proofs.Common.{subst, sym}
use Rattle.arz_components.specs.Indexes.{finds}
use Rattle.arz_components.specs.declared.components.Components.{Components}
use Rattle.arz_description.specs.Parts.{meant}
use Rattle.arz_actions.specs.Ready.{IsTryable}
use Rattle.arz_actions.proofs.Sharing.{item_tryable}
use Rattle.arz_actions.proofs.actions.Actions.list.Goals as goal

pub ready-requires : goal.ready-requires
ready-requires c =
    subst (λ (components : Components). IsTryable (meant (finds components) c.args.part c.item-item.result)) (sym c.loop-item.invariant.same)
    (item_tryable (finds c.args.self.now.components.now) c.args.part c.args.items.now c.loop-item.item-index c.item-item.result c.requires c.loop-item-test.true c.item-item.is)
