use Rattle.std.proofs.Common.{◌≡◌, ℕ, List, drop}
use Rattle.arz_doc.specs.Cycles.{number_in, number_from}
use Rattle.arz_doc.proofs.cycles.numbers_of.Given as goal

abbrev pub invariant-loop-k : goal.invariant-loop-k
invariant-loop-k l = (q : List ℕ) → number_in l.numbers q ≡ number_from l.k (drop l.k l.workflows) q
