use Rattle.std.proofs.Common.{◌≡◌, ◌≤◌, ◌+◌, ℕ, length}
use Rattle.arz_graph.specs.Reaches.{Graph}
use Rattle.arz_graph.specs.Search.{seen, HoldsBut}
use Rattle.arz_graph.specs.declared.search.Mark.TheVariants.{OnPath}
use Rattle.arz_graph.proofs.search.Search.close.Given as goal

abbrev pub invariant-loop-last : goal.invariant-loop-last
invariant-loop-last l = record {
  last : l.last + 1 ≡ length l.self.components.items;
  marks : l.self.marks ≡ l.initial.self.marks;
  edges : l.self.edges ≡ l.initial.self.edges;
  fewer : length l.self.components.items ≤ length l.initial.self.components.items;
  sound : (graph : Graph) (v : ℕ) → HoldsBut graph l.initial.self v → (seen l.initial.self).mark v ≡ OnPath l.place → HoldsBut graph l.self v;
}

abbrev pub decreases-loop-last : goal.decreases-loop-last
decreases-loop-last l = l.last
