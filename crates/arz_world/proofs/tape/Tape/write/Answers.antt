use Rattle.std.proofs.Common.{◌≡◌, ◌∙◌, sym, rules}
use Rattle.arz_world.proofs.Tapes.{kept_write}
use Rattle.arz_world.proofs.tape.Tape.write.Goals as goal

pub invariant_of-self-in_default : goal.invariant_of-self-in_default
invariant_of-self-in_default c =
    let same : c.in_ok-to_vec.field-0.items ≡ c.args.bytes.now = search rules in
    kept_write c.self.inside.first.items c.self.inside.calls.items _ c.self.inside.file.items c.self.inside.talks c.self.invariant c.args.self.now c.args.at _ _ _ (sym c.self.view_is) c.requires (c.from_std-copy.ensures ∙ same) c.in_ok-push.ensures.items c.in_default.ensures.ok
