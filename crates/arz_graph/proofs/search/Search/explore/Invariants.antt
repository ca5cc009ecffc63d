use Rattle.std.proofs.Common.{◌≢◌}
use Rattle.arz_graph.specs.Search.{seen, Holds, work, Sees}
use Rattle.arz_graph.specs.declared.search.Mark.TheVariants.{Unseen}
use Rattle.arz_graph.proofs.search.Search.explore.Given as goal

abbrev pub invariant-loop-self : goal.invariant-loop-self
invariant-loop-self l = record {
  sound : Holds l.graph l.self;
  seen : (seen l.self).mark l.root ≢ Unseen;
  sees : Sees l.fn.self l.self;
}

abbrev pub decreases-loop-self : goal.decreases-loop-self
decreases-loop-self l = work l.graph l.self
