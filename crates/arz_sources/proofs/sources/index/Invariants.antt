use Rattle.std.proofs.Common.{◌≡◌, ℕ, List, drop, map}
use Rattle.arz_sources.specs.Served.{seen_source, source_in_map, named_in}
use Rattle.arz_sources.proofs.sources.index.Given as goal

abbrev pub invariant-loop-k : goal.invariant-loop-k
invariant-loop-k l = (q : List ℕ) → source_in_map l.names q ≡ named_in (map seen_source (drop l.k l.list)) q
