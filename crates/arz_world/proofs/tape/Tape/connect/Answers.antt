use Rattle.arz_world.proofs.Tapes.{kept_connect}
use Rattle.arz_world.proofs.tape.Tape.connect.Goals as goal

pub invariant_of-self-in_default : goal.invariant_of-self-in_default
invariant_of-self-in_default c =
    kept_connect c.self.inside.first.items c.self.inside.calls.items _ c.self.inside.file.items c.self.inside.talks c.self.invariant c.args.server.now _ _ _ c.in_ok-same_server.ensures c.in_ok-talk.ensures c.in_ok-push.ensures.items c.in_default.ensures.ok
