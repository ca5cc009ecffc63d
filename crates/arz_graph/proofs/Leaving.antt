-- The last component leaves the path, and its nodes are done.
use Rattle.std.proofs.Common.{◌≡◌, ◌<◌, ◌≤◌, ◌+◌, ℕ, Bool, true, false, refl, sym, ap, ◌∙◌, subst, ◌⊎◌, inl, inr, ⊎_elim, arith}
use Rattle.std.proofs.lemmas.Bool.{false≢true}
use Rattle.arz_graph.specs.declared.search.Mark.{Mark}
use Rattle.arz_graph.specs.declared.search.Mark.TheVariants.{Unseen, OnPath, Done}
use Rattle.arz_graph.specs.Reaches.{Reaches, edge, onward}
use Rattle.arz_graph.specs.Search.{Stand, bound, edge_bound, Within, IsDone, Joined, IsSource, Sound, IsPending, LiesAt, Settled, Known, AllKnown, LeavesMarks}
use Rattle.arz_graph.proofs.Walks.{order}
use Rattle.arz_graph.proofs.Bounds.{bound_le, edge_le}

pub record LeavesAt (s t : Stand) (h : ℕ) : Type 0 where
  pub marks : LeavesMarks (bound s h) s.depth (s.component h).cyclic s.mark t.mark
  pub depth : t.depth ≡ bound s h
  pub node_old : (k : ℕ) → k < t.depth → t.node k ≡ s.node k
  pub pending : t.pending ≡ s.pending
  pub target_same : (k : ℕ) → t.target k ≡ s.target k
  pub count : t.count ≡ h
  pub bound_old : (f : ℕ) → f ≤ h → bound t f ≡ bound s f
  pub bound_new : (f : ℕ) → h ≤ f → bound t f ≡ t.depth
  pub edge_old : (f : ℕ) → f < h → edge_bound t f ≡ edge_bound s f
  pub edge_new : (f : ℕ) → h ≤ f → edge_bound t f ≡ t.pending
  pub cyclic_old : (f : ℕ) → f < h → (t.component f).cyclic ≡ (s.component f).cyclic

module _ (E : ℕ → ℕ → Type 0) (s : Stand) (S : Sound E s) (K : AllKnown E s) (t : Stand) (h : ℕ) (e : LeavesAt s t h) (top : h + 1 ≡ s.count) (spent : s.pending ≤ edge_bound s h) where
  abbrev cyclic : Bool
  cyclic = (s.component h).cyclic

  record IsGone (x k : ℕ) : Type 0 where
    pub was : s.mark x ≡ OnPath k
    pub from : bound s h ≤ k
    pub under : k < s.depth
    pub is : t.mark x ≡ Done (s.component h).cyclic

  record IsKept (x : ℕ) : Type 0 where
    pub same : t.mark x ≡ s.mark x
    pub before : (k : ℕ) → s.mark x ≡ OnPath k → k < bound s h

  sorted_on : (x k : ℕ) → s.mark x ≡ OnPath k → ((k : ℕ) × IsGone x k) ⊎ IsKept x
  sorted_on x k q =
      let under : k < s.depth = (S.path.found x k q).0 in
      ⊎_elim
      (λ (low : k < bound s h). inr (record {
        same = e.marks.kept x (λ j r l m. let w : OnPath k ≡ OnPath j = sym q ∙ r in let z : k ≡ j = cc in omega arith);
        before = λ j r. let w : OnPath k ≡ OnPath j = sym q ∙ r in let z : k ≡ j = cc in omega arith;
      }))
      (λ high. inl (k, record { was = q; from = high; under = under; is = e.marks.gone x k q high under }))
      (order k (bound s h))

  sorted_off : (x : ℕ) → ((k : ℕ) → s.mark x ≡ OnPath k → ⊥) → IsKept x
  sorted_off x off = record { same = e.marks.kept x (λ j r l m. off j r); before = λ j r. absurd (off j r) }

  sorted_at : (x : ℕ) (m : Mark) → s.mark x ≡ m → ((k : ℕ) × IsGone x k) ⊎ IsKept x
  sorted_at x Unseen q = inr (sorted_off x (λ k r. let w : ◌≡◌ {A = Mark} Unseen (OnPath k) = sym q ∙ r in cc))
  sorted_at x (OnPath k) q = sorted_on x k q
  sorted_at x (Done c) q = inr (sorted_off x (λ k r. let w : ◌≡◌ {A = Mark} (Done c) (OnPath k) = sym q ∙ r in cc))

  sorted : (x : ℕ) → ((k : ℕ) × IsGone x k) ⊎ IsKept x
  sorted x = sorted_at x (s.mark x) refl

  done_from : (x : ℕ) → IsDone (s.mark x) → IsDone (t.mark x)
  done_from x d = ⊎_elim (λ w. (cyclic, w.1.is)) (λ k. (d.0, k.same ∙ d.1)) (sorted x)

  settled_here : (y : ℕ) → Settled s h y → IsDone (t.mark y)
  settled_here y (inl d) = done_from y d
  settled_here y (inr w) = (cyclic, e.marks.gone y w.0 w.1.marked w.1.above (S.path.found y w.0 w.1.marked).0)

  within_last : (x k : ℕ) → IsGone x k → Within s h k
  within_last x k w = record { above = w.from; below = omega (arith, w.under, S.last (h + 1)) }

  node_is : (x k : ℕ) → IsGone x k → s.node k ≡ x
  node_is x k w = (S.path.found x k w.was).1

  none_pending : (y k : ℕ) → IsPending s h y k → ⊥
  none_pending y k w = omega (arith, w.above, w.below, edge_le E s S (h + 1))

  settled_all : (x k y : ℕ) → IsGone x k → E x y → Settled s h y
  settled_all x k y w l = ⊎_elim (λ p. absurd (none_pending y p.0 p.1)) (λ q. q)
      (K h k y (omega arith) (within_last x k w) (subst (λ x. E x y) (sym (node_is x k w)) l))

  closed : (x y : ℕ) → IsDone (t.mark x) → E x y → IsDone (t.mark y)
  closed x y d l = ⊎_elim (λ w. settled_here y (settled_all x w.0 y w.1 l))
      (λ k. done_from y (S.closed x y (d.0, sym k.same ∙ d.1) l)) (sorted x)

  reaches_done : (x y : ℕ) → IsDone (s.mark x) → Reaches E x y → IsDone (s.mark y)
  reaches_done x y d (edge l) = S.closed x y d l
  reaches_done x y d (onward {j = j} l r) = reaches_done j y (S.closed x j d l) r

  only_done : (x k y : ℕ) → IsGone x k → cyclic ≡ false → E x y → IsDone (s.mark y)
  only_done x k y w q l = ⊎_elim (λ d. d)
      (λ b. absurd (false≢true (sym q ∙ b.1.cyclic (omega (arith, S.last (h + 1), (S.path.found y b.0 b.1.marked).0)))))
      (settled_all x k y w l)

  leads_to_done : (x k y : ℕ) → IsGone x k → cyclic ≡ false → Reaches E x y → IsDone (s.mark y)
  leads_to_done x k y w q (edge l) = only_done x k y w q l
  leads_to_done x k y w q (onward {j = j} l r) = reaches_done j y (only_done x k j w q l) r

  gone_acyclic : (x k : ℕ) → IsGone x k → t.mark x ≡ Done false → Reaches E x x → ⊥
  gone_acyclic x k w q r =
      let same : Done cyclic ≡ Done false = sym w.is ∙ q in
      let no : cyclic ≡ false = cc in
      let d = leads_to_done x k x w no r in
      let bad : ◌≡◌ {A = Mark} (Done d.0) (OnPath k) = sym d.1 ∙ w.was in cc

  gone_cyclic : (x k : ℕ) → IsGone x k → t.mark x ≡ Done true → Reaches E x x
  gone_cyclic x k w q =
      let same : Done cyclic ≡ Done true = sym w.is ∙ q in
      let yes : cyclic ≡ true = cc in
      subst (λ x. Reaches E x x) (node_is x k w) (S.cycles h k (omega arith) yes (within_last x k w))

  placed : (k : ℕ) → k < t.depth → t.mark (t.node k) ≡ OnPath k
  placed k l =
      let was = S.path.placed k (omega (arith, e.depth, bound_le E s S h)) in
      ap t.mark (e.node_old k l) ∙ ⊎_elim
      (λ w. let twice : OnPath w.0 ≡ OnPath k = sym w.1.was ∙ was in let z : w.0 ≡ k = cc in absurd (omega (arith, e.depth, w.1.from)))
      (λ w. w.same ∙ was) (sorted (s.node k))

  found : (x k : ℕ) → t.mark x ≡ OnPath k → (k < t.depth) × (t.node k ≡ x)
  found x k q = ⊎_elim
      (λ w. let bad : ◌≡◌ {A = Mark} (Done (s.component h).cyclic) (OnPath k) = sym w.1.is ∙ q in absurd cc)
      (λ w. let was = sym w.same ∙ q in
      let low : k < t.depth = omega (arith, e.depth, w.before k was) in
      (low, e.node_old k low ∙ (S.path.found x k was).1))
      (sorted x)

  bounds : (f g : ℕ) → f < g → f < t.count → bound t f < bound t g
  bounds f g l i = ⊎_elim
      (λ (before : g < h). omega (arith, e.count, e.bound_old f, e.bound_old g, S.bounds f g))
      (λ after. omega (arith, e.count, e.bound_old f, e.bound_new g, e.depth, S.bounds f h))
      (order g h)

  edge_same : (f : ℕ) → edge_bound t f ≡ edge_bound s f
  edge_same f = ⊎_elim (λ (l : f < h). e.edge_old f l)
      (λ m. omega (arith, e.edge_new f m, e.pending, edge_le E s S f, S.edge_bounds h f m)) (order f h)

  inner : (f a : ℕ) → f < h → a < bound t (f + 1) → a < t.depth
  inner f a l m = ⊎_elim (λ (i : f + 1 < h). omega (arith, e.bound_old (f + 1), e.depth, S.bounds (f + 1) h)) (λ j. omega (arith, e.bound_new (f + 1) j)) (order (f + 1) h)

  within_from : (f a : ℕ) → f < h → Within s f a → Within t f a
  within_from f a l w = record { above = omega (arith, e.bound_old f, w.above); below = omega (arith, e.bound_old (f + 1), w.below) }

  within_to : (f a : ℕ) → f < h → Within t f a → Within s f a
  within_to f a l w = record { above = omega (arith, e.bound_old f, w.above); below = omega (arith, e.bound_old (f + 1), w.below) }

  joined : (f a b : ℕ) → f < t.count → a < bound t (f + 1) → bound t f ≤ b → b < t.depth → Joined E (t.node a) (t.node b)
  joined f a b i l m n =
      let in' : f < h = omega (arith, e.count) in
      let j = S.joined f a b (omega arith) (omega (arith, e.bound_old (f + 1))) (omega (arith, e.bound_old f)) (omega (arith, e.depth, bound_le E s S h)) in
      subst (λ x. Joined E x (t.node b)) (sym (e.node_old a (inner f a in' l))) (subst (Joined E (s.node a)) (sym (e.node_old b n)) j)

  sources : (f k : ℕ) → f < t.count → edge_bound t f ≤ k → k < edge_bound t (f + 1) → (a : ℕ) × IsSource E t f (t.target k) a
  sources f k i l m =
      let in' : f < h = omega (arith, e.count) in
      let w = S.sources f k (omega arith) (omega (arith, edge_same f)) (omega (arith, edge_same (f + 1))) in
      let lies = within_from f w.0 in' w.1.within in (
        w.0,
        record {
          within = lies;
          leads = subst (λ x. E x (t.target k)) (sym (e.node_old w.0 (inner f w.0 in' lies.below))) (subst (E (s.node w.0)) (sym (e.target_same k)) w.1.leads);
        },
      )

  cycles : (f a : ℕ) → f < t.count → (t.component f).cyclic ≡ true → Within t f a → Reaches E (t.node a) (t.node a)
  cycles f a i q w =
      let in' : f < h = omega (arith, e.count) in
      subst (λ x. Reaches E x x) (sym (e.node_old a (inner f a in' w.below))) (S.cycles f a (omega arith) (sym (e.cyclic_old f in') ∙ q) (within_to f a in' w))

  pub left : Sound E t
  left = record {
    path = record { placed = placed; found = found };
    bounds = bounds;
    first = omega (arith, e.bound_old 0, S.first);
    last = λ f l. e.bound_new f (omega (arith, e.count));
    edge_bounds = λ f g l. omega (arith, edge_same f, edge_same g, S.edge_bounds f g l);
    edge_last = λ f l. e.edge_new f (omega (arith, e.count));
    joined = joined;
    sources = sources;
    cycles = cycles;
    closed = closed;
    cyclic = λ x q. ⊎_elim (λ w. gone_cyclic x w.0 w.1 q) (λ k. S.cyclic x (sym k.same ∙ q)) (sorted x);
    acyclic = λ x q r. ⊎_elim (λ w. gone_acyclic x w.0 w.1 q r) (λ k. S.acyclic x (sym k.same ∙ q) r) (sorted x);
  }

  lies_on : (f y b : ℕ) → f < h → LiesAt s f y b → Settled t f y
  lies_on f y b l w = ⊎_elim (λ g. inl (cyclic, g.1.is))
      (λ k. inr (b, record { marked = k.same ∙ w.marked; above = omega (arith, e.bound_old f, w.above); cyclic = λ m. e.cyclic_old f l ∙ w.cyclic (omega (arith, e.bound_old (f + 1))) }))
      (sorted y)

  known : (f y : ℕ) → f < h → Known s f y → Known t f y
  known f y l (inl w) = inl (w.0, record { above = omega (arith, edge_same f, w.1.above); below = omega (arith, edge_same (f + 1), w.1.below); is = e.target_same w.0 ∙ w.1.is })
  known f y l (inr (inl d)) = inr (inl (done_from y d))
  known f y l (inr (inr w)) = inr (lies_on f y w.0 l w.1)

  pub known_left : AllKnown E t
  known_left f a y i w l =
      let in' : f < h = omega (arith, e.count) in
      known f y in' (K f a y (omega arith) (within_to f a in' w) (subst (λ x. E x y) (e.node_old a (inner f a in' w.below)) l))
