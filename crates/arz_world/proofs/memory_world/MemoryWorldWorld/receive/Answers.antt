use Rattle.std.proofs.Common.{refl}
use Rattle.arz_world.proofs.MemoryWorlds.{received, link_call_is, notes_link}
use Rattle.arz_world.proofs.memory_world.MemoryWorldWorld.receive.Goals as goal

pub returns-clause-received : goal.returns-clause-received
returns-clause-received c = λ told. received c.args.self.now _ _ c.args.into.now c.try_receive.new.into c.try_receive.result c.try_receive.new.self c.try_receive.ensures.exact c.try_receive.ensures.bytes c.try_receive.ensures.range

pub returns-clause-call : goal.returns-clause-call
returns-clause-call c = link_call_is c.args.self.now _ c.try_receive.ensures.range _ c.try_receive.result c.try_receive.new.self c.try_receive.ensures.exact (λ v. notes_link c.args.self.now _ (λ i left. left) refl refl)
