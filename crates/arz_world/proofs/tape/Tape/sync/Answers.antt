use Rattle.arz_world.proofs.Tapes.{kept_after}
use Rattle.arz_world.proofs.tape.Tape.sync.Goals as goal

pub invariant_of-self-2 : goal.invariant_of-self-2
invariant_of-self-2 c = kept_after c.self.inside.first.items c.self.inside.calls.items _ c.self.inside.file.items c.self.inside.talks c.self.invariant _ c.in_ok-push.ensures.items _ _ c.self.invariant.0 c.self.invariant.1
