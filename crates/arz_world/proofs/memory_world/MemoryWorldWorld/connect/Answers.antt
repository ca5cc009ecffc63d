use Rattle.std.proofs.Common.{refl}
use Rattle.arz_world.specs.declared.tape.Call.TheVariants.{Connected}
use Rattle.arz_world.proofs.MemoryWorlds.{connected, link_call_is, notes_link}
use Rattle.arz_world.proofs.memory_world.MemoryWorldWorld.connect.Goals as goal

pub returns-clause-talk : goal.returns-clause-talk
returns-clause-talk c = λ told. connected c.args.self.now _ c.args.server.now c.try_connect.result c.try_connect.new.self c.try_connect.ensures.exact c.try_connect.ensures.range

pub returns-clause-call : goal.returns-clause-call
returns-clause-call c = link_call_is c.args.self.now _ c.try_connect.ensures.range _ c.try_connect.result c.try_connect.new.self c.try_connect.ensures.exact (λ v. notes_link c.args.self.now (Connected c.args.server.now) (λ i left. left) refl refl)
