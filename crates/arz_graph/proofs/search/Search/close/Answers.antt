use Rattle.std.proofs.Common.{◌≡◌, ◌<◌, ◌≤◌, ◌+◌, ◌-◌, length, take, refl, sym, ap, ◌∙◌, subst, arith}
use Rattle.std.proofs.Math.ListN.{set}
use Rattle.std.proofs.lemmas.List.{get_or_read, length-set, length-take-le}
use Rattle.arz_graph.specs.Search.{seen, end, as_cyclic, bound}
use Rattle.arz_graph.proofs.Marked.{mark_at}
use Rattle.arz_graph.proofs.Searches.{merge_holds, ring_holds}
use Rattle.arz_graph.proofs.search.Search.close.Goals as goal
use Rattle.arz_graph.proofs.search.Search.close.Goals.{then-loop-last-test+else-index-place, else-loop-last-test}

pub loop-last-preserved : goal.loop-last-preserved
loop-last-preserved c =
    let inv = c.loop-last.invariant in
    let s = c.loop-last.self in
    let h = c.loop-last.last - 1 in
    let top : h + 2 ≡ length s.components.items = omega (arith, inv.last, c.loop-last-test.true) in
    let at : c.loop-last.last ≡ h + 1 = omega (arith, c.loop-last-test.true) in
    let part = sym (get_or_read s.components.items c.loop-last.last _ (omega (arith, inv.last)) c.index.ensures (end s.nodes.items s.edges.items)) in
    let low : c.args.place < bound (seen s) (h + 1) =
    subst (λ k. c.args.place < bound (seen s) k) at (omega (arith, ap (λ m. m.nodes) part, c.if-index-place.true)) in
    let count = ap length (c.merge.ensures.components h top) ∙ length-set (take (h + 1) s.components.items) h _ ∙ length-take-le (h + 1) s.components.items (omega arith) in
    record {
      last = sym count;
      marks = c.merge.ensures.marks ∙ inv.marks;
      edges = c.merge.ensures.edges ∙ inv.edges;
      fewer = omega (arith, count, inv.fewer, top);
      sound = λ graph v H on. merge_holds graph s _ v c.args.place h (inv.sound graph v H on) (ap (λ m. mark_at m.items v) inv.marks ∙ on) top low c.merge.ensures;
    }

pub returns-clause-sound : goal.returns-clause-sound
returns-clause-sound c graph v H on =
    let inv = c.loop-last.invariant in
    let s = c.loop-last.self in
    let before = inv.sound graph v H on in
    let last = c.loop-last.last in
    let part = sym (get_or_read s.components.items last _ (omega (arith, inv.last)) c.index_mut.ensures.value (end s.nodes.items s.edges.items)) in
    let low : bound (seen s) last ≤ c.args.place = elim c.loop-last-test.branch [
      | then-loop-last-test+else-index-place w ↦
          let read = sym (get_or_read s.components.items last _ (omega (arith, inv.last)) w.index.ensures (end s.nodes.items s.edges.items)) in
          omega (arith, ap (λ m. m.nodes) read, w.if-index-place.false)
      | else-loop-last-test w ↦
          let zero : last ≡ 0 = omega (arith, w.loop-last-test.false) in
          subst (λ k. bound (seen s) k ≤ c.args.place) (sym zero) (omega (arith, before.sound.first))
    ] in
    ring_holds graph s _ v c.args.place last before (ap (λ m. mark_at m.items v) inv.marks ∙ on) inv.last low refl refl refl
    (ap (λ m. set s.components.items last (as_cyclic m)) (sym part))
