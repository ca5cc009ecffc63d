use Rattle.std.proofs.Common.{◌∙◌, ap}
use Rattle.std.proofs.lemmas.Result.{IfOk-weaker}
use Rattle.arz_world.specs.MemoryWorld.{WorldInMemory}
use Rattle.arz_world.specs.Replay.{Record, crashed, state}
use Rattle.arz_world.proofs.Crashes.{crash_is_image}
use Rattle.arz_world.proofs.memory_world.MemoryWorld.crash.Goals as goal

pub returns-clause-image : goal.returns-clause-image
returns-clause-image c = IfOk-weaker c.crash.result _ _ (λ image is.
    crash_is_image c.args.self.tape c.args.self.disk_faults c.args.self.link_faults c.args.torn image
    (is ∙ ap (λ (r : Record). crashed c.args.torn (state r)) (ap (λ (u : WorldInMemory). u.tape) c.self.view_is))) c.crash.ensures
