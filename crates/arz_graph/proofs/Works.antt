-- The work that is left.
use Rattle.std.proofs.Common.{◌≡◌, ◌<◌, ◌≤◌, ◌+◌, ℕ, zero, suc, List, [], ◌∷◌, length, refl, sym, ap, ◌∙◌, subst, arith}
use Rattle.std.proofs.Math.ListN.{set}
use Rattle.std.proofs.lemmas.List.{length-append, length_push, length-take-le}
use Rattle.arz_graph.specs.declared.search.Mark.{Mark}
use Rattle.arz_graph.specs.declared.search.Mark.TheVariants.{Unseen, OnPath, Done}
use Rattle.arz_graph.specs.declared.search.Search.{Search}
use Rattle.arz_graph.specs.Reaches.{Graph, targets}
use Rattle.arz_graph.specs.Search.{seen, mark_work, marks_work, work, Enters, Takes, Leaves}
use Rattle.arz_graph.proofs.Marked.{mark_at, unseen_within}
use Rattle.arz_graph.proofs.Searches.{leave_sees}

mark_work_le : (m k : Mark) (ts : List ℕ) → (k ≡ Unseen → m ≡ Unseen) → mark_work k ts ≤ mark_work m ts
mark_work_le m Unseen ts h = subst (λ m. length ts + 2 ≤ mark_work m ts) (sym (h refl)) (omega arith)
mark_work_le m (OnPath k) ts h = omega arith
mark_work_le m (Done c) ts h = omega arith

pub marks_work_le : (ms ls : List Mark) (graph : Graph) → length ls ≡ length ms → ((x : ℕ) → mark_at ls x ≡ Unseen → mark_at ms x ≡ Unseen) → marks_work ls graph ≤ marks_work ms graph
marks_work_le [] [] graph e h = omega arith
marks_work_le [] (l ∷ ls) graph e h = absurd (omega arith)
marks_work_le (m ∷ ms) [] graph e h = absurd (omega arith)
marks_work_le (m ∷ ms) (l ∷ ls) [] e h = omega arith
marks_work_le (m ∷ ms) (l ∷ ls) (ts ∷ graph) e h =
    omega (arith, mark_work_le m l ts.items (h 0), marks_work_le ms ls graph (omega arith) (λ x q. h (suc x) q))

pub marks_work-set : (ms : List Mark) (graph : Graph) (v k : ℕ) → length ms ≡ length graph → v < length ms → mark_at ms v ≡ Unseen
    → marks_work (set ms v (OnPath k)) graph + (length (targets graph v) + 2) ≡ marks_work ms graph
marks_work-set [] graph v k e l u = absurd (omega arith)
marks_work-set (m ∷ ms) [] v k e l u = absurd (omega arith)
marks_work-set (m ∷ ms) (ts ∷ graph) zero k e l u =
    omega (arith, ap (λ m. mark_work m ts.items) u)
marks_work-set (m ∷ ms) (ts ∷ graph) (suc v) k e l u =
    omega (arith, marks_work-set ms graph v k (omega arith) (omega arith) u)

pub enter_work : (graph : Graph) (s t : Search) (v : ℕ) → length s.marks.items ≡ length graph → (seen s).mark v ≡ Unseen → Enters graph v s t → work graph t ≤ work graph s
enter_work graph s t v len u e =
    let a = ap (λ ms. marks_work ms graph) e.marks in
    let b = marks_work-set s.marks.items graph v (length s.nodes.items) len (unseen_within s.marks.items v u) u in
    let c = ap length e.edges ∙ length-append s.edges.items (targets graph v) in
    let d = ap length e.components ∙ length_push s.components.items _ in
    omega (arith, a, b, c, d)

pub take_work : (graph : Graph) (s t : Search) (v : ℕ) → Takes s t v → work graph t + 1 ≡ work graph s
take_work graph s t v e =
    let a = ap (λ v. marks_work v.items graph) e.marks in
    let b = ap length e.edges ∙ length_push t.edges.items v in
    let c = ap (λ v. length v.items) e.components in
    omega (arith, a, b, c)

pub leave_work : (graph : Graph) (s t : Search) (h : ℕ) → h + 1 ≡ length s.components.items → Leaves s t → work graph t < work graph s
leave_work graph s t h top e =
    let a = marks_work_le s.marks.items t.marks.items graph e.count (leave_sees s t h top e) in
    let b = ap (λ v. length v.items) e.edges in
    let c = ap length (e.components h top) ∙ length-take-le h s.components.items (omega arith) in
    omega (arith, a, b, c)
