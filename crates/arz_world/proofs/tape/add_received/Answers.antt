use Rattle.std.proofs.Common.{◌-◌, ℕ, List, ap}
use Rattle.arz_world.specs.World.{with_received}
use Rattle.arz_world.specs.declared.world.Talk.{Talk}
use Rattle.arz_world.proofs.Lasts.{changed_last, has_last, kept_last}
use Rattle.arz_world.proofs.tape.add_received.Goals as goal

pub returns-in-Err-clause-err : goal.returns-in-Err-clause-err
returns-in-Err-clause-err c =
    let now : List ℕ → Talk = λ b. record { server = c.swap_item.new.item.server; sent = c.swap_item.new.item.sent; received = b; closed = c.swap_item.new.item.closed } in
    kept_last (c.len-last.result - 1) c.args.talks.now _ _ c.blank-talk.result c.swap_item.new.item (now c.extended.new.bytes) c.swap_item.ensures.after c.swap_item.ensures.item c.swap_item-in-Err.ensures.after (ap now c.in-Err.ensures.err)

pub returns-clause-ok : goal.returns-clause-ok
returns-clause-ok c =
    changed_last (with_received c.args.bytes.now c.args.closes) (c.len-last.result - 1) c.args.talks.now _ _ c.blank-talk.result c.swap_item.new.item _ (has_last c.args.talks.now c.len-last.result c.len-last.ensures c.if-is_empty.ensures.1) c.swap_item.ensures.after c.swap_item.ensures.item c.swap_item-2.ensures.after
    (λ i. record { server = c.swap_item.new.item.server; sent = c.swap_item.new.item.sent; received = c.in_default.ensures.ok i; closed = c.either.ensures i })
