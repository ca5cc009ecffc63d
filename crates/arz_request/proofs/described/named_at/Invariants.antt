use Rattle.std.proofs.Common.{drop}
use Rattle.arz_request.specs.Named.{HoldsDescribed}
use Rattle.arz_request.proofs.described.named_at.Given as goal

abbrev pub invariant-loop-k : goal.invariant-loop-k
invariant-loop-k l = HoldsDescribed l.place l.names (drop l.k l.parameters)
