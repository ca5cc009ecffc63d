use Rattle.arz_world.proofs.Times.{times-push}
use Rattle.arz_world.proofs.calls.note_fault.Goals as goal

pub returns-clause-counted : goal.returns-clause-counted
returns-clause-counted c =
    rw (c.in_ok-push.ensures.ok, c.from_std.ensures, c.in_ok-from_str.ensures.ok) (times-push c.args.failed.now c.args.path.now)
