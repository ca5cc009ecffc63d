use Rattle.std.proofs.Common.{refl, arith}
use Rattle.std.proofs.lemmas.Str.Pattern.{strip_prefix_char}
use Rattle.arz_json.proofs.Trades.{traded_no_slash}
use Rattle.arz_json.proofs.placing.trade.Goals as goal

pub returns-in_default : goal.returns-in_default
returns-in_default c =
    let path = c.args.pointer.now in
    let other = rw c.in_default.is at (strip_prefix_char 47 path c.strip_prefix.result c.strip_prefix.ensures.cases (omega arith)) in
    (traded_no_slash c.args.item.now path c.args.root.now (grind arith) other, refl, refl)
