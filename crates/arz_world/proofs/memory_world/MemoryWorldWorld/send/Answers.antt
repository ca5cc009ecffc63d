use Rattle.std.proofs.Common.{refl}
use Rattle.arz_world.specs.declared.tape.Call.TheVariants.{Sent}
use Rattle.arz_world.proofs.MemoryWorlds.{sent, link_call_is, notes_link}
use Rattle.arz_world.proofs.memory_world.MemoryWorldWorld.send.Goals as goal

pub returns-clause-sent : goal.returns-clause-sent
returns-clause-sent c = λ told. sent c.args.self.now _ c.args.bytes.now c.try_send.result c.try_send.new.self c.try_send.ensures.exact c.try_send.ensures.range

pub returns-clause-call : goal.returns-clause-call
returns-clause-call c = link_call_is c.args.self.now _ c.try_send.ensures.range _ c.try_send.result c.try_send.new.self c.try_send.ensures.exact (λ v. notes_link c.args.self.now (Sent c.args.bytes.now) (λ i left. left) refl refl)
