use Rattle.std.proofs.Common.{◌≡◌, ◌∙◌, rules}
use Rattle.arz_world.proofs.Tapes.{kept_receive}
use Rattle.arz_world.proofs.tape.Tape.receive.Goals as goal

pub invariant_of-self-in_default : goal.invariant_of-self-in_default
invariant_of-self-in_default c =
    let same : c.in_ok-to_vec.field-0.items ≡ c.args.bytes.now = search rules in
    kept_receive c.self.inside.first.items c.self.inside.calls.items _ c.self.inside.file.items c.self.inside.talks c.self.invariant _ _ _ _ (c.from_std-copy.ensures ∙ same) c.in_ok-push.ensures.items c.in_default.ensures.ok
