use Rattle.std.proofs.Common.{◌≡◌, ◌+◌, ◌-◌, ℕ, length, get_or, take, refl, sym, ap, ◌∙◌, subst, arith, rules}
use Rattle.std.proofs.lemmas.List.{get_or_read, length-set}
use Rattle.arz_graph.specs.Search.{seen, end, LeavesMarks}
use Rattle.arz_graph.proofs.Marked.{mark_at, marked_within, leaves_more, leaves_none}
use Rattle.arz_graph.proofs.search.Search.leave.Goals as goal

pub index_mut-requires : goal.index_mut-requires
index_mut-requires c =
    let inv = c.loop-place.invariant in
    let s = seen c.args.self.now in
    let is : c.index.result.now ≡ s.node c.loop-place.place =
    get_or_read c.loop-place.self.nodes.items _ _ (search rules) c.index.ensures 0 ∙ ap (λ v. get_or v.items c.loop-place.place 0) inv.nodes in
    let marked = ap s.mark is ∙ c.requires.path.placed c.loop-place.place (search rules) in
    omega (arith, inv.len, marked_within c.args.self.now.marks.items c.index.result.now c.loop-place.place marked)

pub loop-place-preserved : goal.loop-place-preserved
loop-place-preserved c =
    let inv = c.loop-place.invariant in
    let s = seen c.args.self.now in
    let is : c.index.result.now ≡ s.node c.loop-place.place =
    get_or_read c.loop-place.self.nodes.items _ _ (search rules) c.index.ensures 0 ∙ ap (λ v. get_or v.items c.loop-place.place 0) inv.nodes in
    let marked = ap s.mark is ∙ c.requires.path.placed c.loop-place.place (search rules) in
    record {
      len = length-set _ _ _ ∙ inv.len;
      marks = leaves_more s c.requires.path c.loop-place.self.marks.items _ c.loop-place.place _ c.index.result.now (search rules) (search rules) is (omega (arith, inv.len, marked_within c.args.self.now.marks.items c.index.result.now c.loop-place.place marked)) inv.marks;
      nodes = inv.nodes;
      edges = inv.edges;
      components = inv.components;
    }

pub loop-place-init : goal.loop-place-init
loop-place-init c = record { len = refl; marks = leaves_none _ _ _; nodes = refl; edges = refl; components = refl }

pub returns : goal.returns
returns c =
    let inv = c.loop-place.invariant in
    let old = c.args.self.now in
    let at : (f : ℕ) → f + 1 ≡ length old.components.items → f ≡ c.len-last.result - 1 = λ f e. omega (arith, e, c.len-last.ensures) in
    let is : (f : ℕ) → f + 1 ≡ length old.components.items → (seen old).component f ≡ c.index-component.result.now =
    λ f e. sym (get_or_read old.components.items f _ (omega arith) (c.index-component.ensures ∙ ap (λ k. get_or old.components.items k c.index-component.result.now) (sym (at f e))) (end old.nodes.items old.edges.items)) in
    let stop : (f : ℕ) → f + 1 ≡ length old.components.items → c.loop-place.place ≡ length old.nodes.items =
    λ f e. let b = c.requires.start f (omega arith) in omega (arith, b, ap (λ m. m.nodes) (is f e), c.loop-place.auto, c.len-place-end.ensures) in
    record {
      count = inv.len;
      marks = λ f e. subst (λ m. LeavesMarks m.nodes (length old.nodes.items) m.cyclic (seen old).mark (mark_at c.loop-place.self.marks.items)) (sym (is f e))
          (subst (λ k. LeavesMarks c.index-component.result.now.nodes k c.index-component.result.now.cyclic (seen old).mark (mark_at c.loop-place.self.marks.items)) (stop f e) inv.marks);
      nodes = λ f e. c.truncate.ensures.items ∙ ap (λ v. take c.index-component.result.now.nodes v.items) inv.nodes ∙ ap (λ m. take m.nodes old.nodes.items) (sym (is f e));
      edges = inv.edges;
      components = λ f e. c.truncate-2.ensures.items ∙ ap (λ v. take (c.len-last.result - 1) v.items) inv.components ∙ ap (λ k. take k old.components.items) (sym (at f e));
    }
