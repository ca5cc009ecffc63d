use Rattle.std.proofs.Common.{length}
use Rattle.arz_json.proofs.placing.+trade_from.Given as goal

abbrev pub decreases-trade_from : goal.decreases-trade_from
decreases-trade_from l = length l.rest.now
