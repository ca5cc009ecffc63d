use Rattle.std.proofs.Common.{rules}
use Rattle.arz_style.proofs.Reserved.{encode-escaped}
use Rattle.arz_style.proofs.escapes.escape_text.Goals as goal

pub returns : goal.returns
returns c = rw (← encode-escaped c.args.text.now) (search rules)
