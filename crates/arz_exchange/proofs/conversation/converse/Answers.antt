use Rattle.std.proofs.Common.{◌∙◌, ap}
use Rattle.arz_exchange.specs.Slots.{SlotView}
use Rattle.arz_exchange.proofs.Conversing.{sends_cut, sends_whole, cut_each, cut_fault, whole_each, whole_ends}
use Rattle.arz_exchange.proofs.conversation.converse.Goals as goal

pub returns-in_err-send-clause-conversed : goal.returns-in_err-send-clause-conversed
returns-in_err-send-clause-conversed g c =
    cut_fault (g.W.World.told c.args.world.now) (g.W.World.told c.send.new.self) c.args.slot.now.request (g.met.W.World.lawful _) c.send.ensures.call c.from_residual.result _ c.args.slot.now.reading c.from_residual.ensures
    (sends_cut (g.W.World.told c.args.world.now) (g.W.World.told c.send.new.self) c.as_slice.result.now c.args.slot.now.request (c.as_slice.ensures ∙ ap (λ (s : SlotView). s.request) c.slot.view_is) c.in_err-send.ensures.sent)

pub returns-in_err-send-clause-any_moment : goal.returns-in_err-send-clause-any_moment
returns-in_err-send-clause-any_moment g c =
    cut_each (g.W.World.told c.args.world.now) (g.W.World.told c.send.new.self) c.args.slot.now.request (g.met.W.World.lawful _) c.send.ensures.call
    (sends_cut (g.W.World.told c.args.world.now) (g.W.World.told c.send.new.self) c.as_slice.result.now c.args.slot.now.request (c.as_slice.ensures ∙ ap (λ (s : SlotView). s.request) c.slot.view_is) c.in_err-send.ensures.sent)

pub returns-clause-conversed : goal.returns-clause-conversed
returns-clause-conversed g c =
    whole_ends (g.W.World.told c.args.world.now) (g.W.World.told c.send.new.self) c.args.slot.now.request (g.met.W.World.lawful _) c.send.ensures.call (g.W.World.told c.receive_reply.new.world)
    (sends_whole (g.W.World.told c.args.world.now) (g.W.World.told c.send.new.self) c.as_slice.result.now c.args.slot.now.request (c.as_slice.ensures ∙ ap (λ (s : SlotView). s.request) c.slot.view_is) c.in_ok-send.ensures.sent)
    c.receive_reply.ensures.run c.receive_reply.result c.receive_reply.new.reader c.receive_reply.ensures.answered

pub returns-clause-any_moment : goal.returns-clause-any_moment
returns-clause-any_moment g c =
    whole_each (g.W.World.told c.args.world.now) (g.W.World.told c.send.new.self) c.args.slot.now.request (g.met.W.World.lawful _) c.send.ensures.call (g.W.World.told c.receive_reply.new.world)
    (sends_whole (g.W.World.told c.args.world.now) (g.W.World.told c.send.new.self) c.as_slice.result.now c.args.slot.now.request (c.as_slice.ensures ∙ ap (λ (s : SlotView). s.request) c.slot.view_is) c.in_ok-send.ensures.sent)
    c.receive_reply.ensures.run c.receive_reply.ensures.any_moment
