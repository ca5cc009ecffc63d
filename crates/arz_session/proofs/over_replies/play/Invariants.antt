use Rattle.std.proofs.Common.{[], take}
use Rattle.arz_flow.specs.declared.bundle.Bundle.{Bundle}
use Rattle.arz_machine.specs.At.{standing, At}
use Rattle.arz_path.specs.Results.{Asked}
use Rattle.arz_session.proofs.Mocking.{HasTold}
use Rattle.arz_session.proofs.over_replies.play.Given as goal

-- the machine was told the replies so far, and each has its line
abbrev pub invariant-loop-reply : goal.invariant-loop-reply
invariant-loop-reply g l =
    let told = (g.P.Patterns.patterns l.fn.rx).told in
    record {
      told : (b : Bundle) → At told (standing l.fn.machine) b [] → HasTold told b (standing l.machine) (take l.reply-index l.replies) l.lines.items;
      asked : Asked (g.P.Patterns.patterns l.fn.rx) (g.P.Patterns.patterns l.rx);
    }
