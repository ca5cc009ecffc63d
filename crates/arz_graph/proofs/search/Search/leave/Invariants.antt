use Rattle.std.proofs.Common.{◌≡◌, length}
use Rattle.arz_graph.specs.Search.{seen, LeavesMarks}
use Rattle.arz_graph.proofs.search.Search.leave.Given as goal

abbrev pub invariant-loop-place : goal.invariant-loop-place
invariant-loop-place l = record {
  len : length l.self.marks.items ≡ length l.initial.self.marks.items;
  marks : LeavesMarks l.component.nodes l.place l.component.cyclic (seen l.initial.self).mark (seen l.self).mark;
  nodes : l.self.nodes ≡ l.initial.self.nodes;
  edges : l.self.edges ≡ l.initial.self.edges;
  components : l.self.components ≡ l.initial.self.components;
}
