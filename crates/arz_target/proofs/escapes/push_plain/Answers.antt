use Rattle.std.proofs.Common.{rules}
use Rattle.arz_target.proofs.OutsidePaths.{encode-plain}
use Rattle.arz_target.proofs.escapes.push_plain.Goals as goal

pub returns : goal.returns
returns c = rw (← encode-plain c.args.text.now) (search rules)
