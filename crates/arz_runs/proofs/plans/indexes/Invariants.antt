use Rattle.std.proofs.Common.{◌≡◌, ℕ, ◌+◌, List, drop, length}
use Rattle.arz_relation.specs.Documents.{index_of}
use Rattle.arz_runs.specs.Planned.{index_in}
use Rattle.arz_runs.proofs.plans.indexes.Given as goal

abbrev pub invariant-loop-k : goal.invariant-loop-k
invariant-loop-k l = (q : List ℕ) → index_in l.indexes (length l.steps) q ≡ l.k + index_of q (drop l.k l.steps)
