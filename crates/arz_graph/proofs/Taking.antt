-- A pending target is taken from the last component.
use Rattle.std.proofs.Common.{◌≡◌, ◌<◌, ◌≤◌, ◌+◌, ◌-◌, ℕ, sym, ap, ◌∙◌, subst, ◌⊎◌, inl, inr, ⊎_elim, arith}
use Rattle.arz_graph.specs.declared.search.Component.{Component}
use Rattle.arz_graph.specs.Search.{Stand, bound, edge_bound, Within, IsSource, Sound, IsPending, LiesAt, Settled, Known, AllKnown, KnownBut, IsLed}
use Rattle.arz_graph.proofs.Walks.{order}
use Rattle.arz_graph.proofs.Bounds.{edge_le}

abbrev pub taken_stand : Stand → ℕ → (ℕ → ℕ) → (ℕ → Component) → Stand
taken_stand s pending target component = record s { pending = pending; target = target; component = component }

pub record TakesAt (s t : Stand) (v : ℕ) : Type 0 where
  pub pending : s.pending ≡ t.pending + 1
  pub taken : s.target t.pending ≡ v
  pub target_old : (k : ℕ) → k < t.pending → t.target k ≡ s.target k
  pub bound_same : (f : ℕ) → bound t f ≡ bound s f
  pub edge_old : (f : ℕ) → f < s.count → edge_bound t f ≡ edge_bound s f
  pub edge_new : (f : ℕ) → s.count ≤ f → edge_bound t f ≡ t.pending
  pub cyclic_old : (f : ℕ) → f < s.count → (t.component f).cyclic ≡ (s.component f).cyclic
  pub fresh : (f : ℕ) → f + 1 ≡ s.count → edge_bound s f ≤ t.pending

module _ (E : ℕ → ℕ → Type 0) (s : Stand) (S : Sound E s) (p : ℕ) (target : ℕ → ℕ) (component : ℕ → Component) (v : ℕ) (e : TakesAt s (taken_stand s p target component) v) where
  abbrev t : Stand
  t = taken_stand s p target component

  low_edge : (f : ℕ) → f < s.count → edge_bound s f ≤ p
  low_edge f l = omega (arith, S.edge_bounds f (s.count - 1), e.fresh (s.count - 1))

  new_le : (f : ℕ) → edge_bound t f ≤ p
  new_le f = ⊎_elim (λ (l : f < s.count). omega (arith, e.edge_old f, low_edge f l)) (λ h. omega (arith, e.edge_new f h)) (order f s.count)

  edge_bounds : (f g : ℕ) → f ≤ g → edge_bound t f ≤ edge_bound t g
  edge_bounds f g l = ⊎_elim (λ (i : g < s.count). omega (arith, e.edge_old f, e.edge_old g, S.edge_bounds f g))
      (λ h. omega (arith, e.edge_new g h, new_le f)) (order g s.count)

  next_le : (f : ℕ) → f < s.count → edge_bound t (f + 1) ≤ edge_bound s (f + 1)
  next_le f l = ⊎_elim (λ (i : f + 1 < s.count). omega (arith, e.edge_old (f + 1)))
      (λ h. omega (arith, e.edge_new (f + 1) h, S.edge_last (f + 1) h, e.pending)) (order (f + 1) s.count)

  within_from : (f a : ℕ) → Within s f a → Within t f a
  within_from f a w = record { above = omega (arith, e.bound_same f, w.above); below = omega (arith, e.bound_same (f + 1), w.below) }

  within_to : (f a : ℕ) → Within t f a → Within s f a
  within_to f a w = record { above = omega (arith, e.bound_same f, w.above); below = omega (arith, e.bound_same (f + 1), w.below) }

  sources : (f k : ℕ) → f < s.count → edge_bound t f ≤ k → k < edge_bound t (f + 1) → (a : ℕ) × IsSource E t f (target k) a
  sources f k i l m =
      let w = S.sources f k i (omega (arith, e.edge_old f)) (omega (arith, next_le f i)) in
      (w.0, record { within = within_from f w.0 w.1.within; leads = subst (E (s.node w.0)) (sym (e.target_old k (omega (arith, new_le (f + 1))))) w.1.leads })

  pub taken : Sound E t
  taken = record {
    path = record { placed = S.path.placed; found = S.path.found };
    bounds = λ f g l i. omega (arith, e.bound_same f, e.bound_same g, S.bounds f g l i);
    first = omega (arith, e.bound_same 0, S.first);
    last = λ f l. omega (arith, e.bound_same f, S.last f l);
    edge_bounds = edge_bounds;
    edge_last = e.edge_new;
    joined = λ f a b i l m n. S.joined f a b i (omega (arith, e.bound_same (f + 1))) (omega (arith, e.bound_same f)) n;
    sources = sources;
    cycles = λ f a i q w. S.cycles f a i (sym (e.cyclic_old f i) ∙ q) (within_to f a w);
    closed = S.closed;
    cyclic = S.cyclic;
    acyclic = S.acyclic;
  }

  lies : (f y b : ℕ) → f < s.count → LiesAt s f y b → LiesAt t f y b
  lies f y b i w = record { marked = w.marked; above = omega (arith, e.bound_same f, w.above); cyclic = λ l. e.cyclic_old f i ∙ w.cyclic (omega (arith, e.bound_same (f + 1))) }

  settled : (f y : ℕ) → f < s.count → Settled s f y → Settled t f y
  settled f y i (inl d) = inl d
  settled f y i (inr w) = inr (w.0, lies f y w.0 i w.1)

  pending_old : (f y k : ℕ) → f < s.count → IsPending s f y k → k < p → IsPending t f y k
  pending_old f y k i w l = record {
    above = omega (arith, e.edge_old f, w.above);
    below = ⊎_elim (λ (j : f + 1 < s.count). omega (arith, e.edge_old (f + 1), w.below)) (λ h. omega (arith, e.edge_new (f + 1) h)) (order (f + 1) s.count);
    is = e.target_old k l ∙ w.is;
  }

  pending_new : (f y k : ℕ) → f < s.count → IsPending s f y k → p ≤ k → (f + 1 ≡ s.count) × (y ≡ v)
  pending_new f y k i w l =
      let here : k ≡ p = omega (arith, w.below, edge_le E s S (f + 1), e.pending) in
      (⊎_elim (λ (j : f + 1 < s.count). absurd (omega (arith, low_edge (f + 1) j, w.below))) (λ h. omega arith) (order (f + 1) s.count), sym w.is ∙ ap s.target here ∙ e.taken)

  known : (f y : ℕ) → f < s.count → Known s f y → Known t f y ⊎ ((f + 1 ≡ s.count) × (y ≡ v))
  known f y i (inl w) = ⊎_elim (λ l. inl (inl (w.0, pending_old f y w.0 i w.1 l))) (λ h. inr (pending_new f y w.0 i w.1 h)) (order w.0 p)
  known f y i (inr w) = inl (inr (settled f y i w))

  pub known_taken : AllKnown E s → KnownBut E t v
  known_taken K f a y i w l = known f y i (K f a y i (within_to f a w) l)

  pub led_taken : IsLed E t v
  led_taken f q =
      let w = S.sources f p (omega arith) (e.fresh f q) (omega (arith, S.edge_last (f + 1), e.pending)) in
      (w.0, record { within = within_from f w.0 w.1.within; leads = subst (E (s.node w.0)) e.taken w.1.leads })
