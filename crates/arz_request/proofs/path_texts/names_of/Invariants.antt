use Rattle.std.proofs.Common.{drop}
use Rattle.arz_request.specs.Named.{HoldsWritten}
use Rattle.arz_request.proofs.path_texts.names_of.Given as goal

abbrev pub invariant-loop-k : goal.invariant-loop-k
invariant-loop-k l = HoldsWritten l.names (drop l.k l.written)
