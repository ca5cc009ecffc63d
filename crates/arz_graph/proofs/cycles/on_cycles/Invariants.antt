use Rattle.std.proofs.Common.{◌≡◌, ◌≢◌, ◌<◌, ℕ, []}
use Rattle.arz_graph.specs.declared.search.Mark.TheVariants.{Unseen}
use Rattle.arz_graph.specs.Search.{seen, Holds}
use Rattle.arz_graph.proofs.cycles.on_cycles.Given as goal

abbrev pub invariant-loop-root : goal.invariant-loop-root
invariant-loop-root l = record {
  sound : Holds l.graph l.search;
  idle : l.search.components.items ≡ [];
  seen : (x : ℕ) → x < l.root → (seen l.search).mark x ≢ Unseen;
}
