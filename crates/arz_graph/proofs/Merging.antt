-- Components of the path are contracted to one.
use Rattle.std.proofs.Common.{◌≡◌, ◌<◌, ◌≤◌, ◌+◌, ℕ, true, sym, ap, ◌∙◌, subst, ◌⊎◌, inl, inr, ⊎_elim, arith}
use Rattle.arz_graph.specs.declared.search.Component.{Component}
use Rattle.arz_graph.specs.declared.search.Mark.TheVariants.{OnPath}
use Rattle.arz_graph.specs.Reaches.{Reaches}
use Rattle.arz_graph.specs.Search.{Stand, bound, edge_bound, Within, IsDone, Joined, IsSource, Sound, Known, AllKnown, KnownBut, IsLed}
use Rattle.arz_graph.proofs.Walks.{order, then_edge, then_joined}
use Rattle.arz_graph.proofs.Bounds.{bound_at, edge_at, bound_le, edge_le, within_le}

abbrev pub merged_stand : Stand → ℕ → (ℕ → Component) → Stand
merged_stand s count component = record s { count = count; component = component }

-- from here on all of the path is one component
pub record MergesAt (s t : Stand) (h : ℕ) : Type 0 where
  pub count : t.count ≡ h + 1
  pub bound_old : (f : ℕ) → f ≤ h → bound t f ≡ bound s f
  pub bound_new : (f : ℕ) → h < f → bound t f ≡ s.depth
  pub edge_old : (f : ℕ) → f ≤ h → edge_bound t f ≡ edge_bound s f
  pub edge_new : (f : ℕ) → h < f → edge_bound t f ≡ s.pending
  pub cyclic_old : (f : ℕ) → f < h → (t.component f).cyclic ≡ (s.component f).cyclic
  pub cyclic_new : (t.component h).cyclic ≡ true

module _ (E : ℕ → ℕ → Type 0) (s : Stand) (S : Sound E s) (n : ℕ) (component : ℕ → Component) (h : ℕ) (e : MergesAt s (merged_stand s n component) h)
    (v p g : ℕ) (led : IsLed E s v) (on : s.mark v ≡ OnPath p) (hg : h ≤ g) (gh : g ≤ h + 1) (top : g + 1 ≡ s.count) (low : p < bound s (h + 1)) where
  abbrev t : Stand
  t = merged_stand s n component

  -- all of the new component is one ring
  ring : (a b : ℕ) → a < s.depth → bound s h ≤ b → b < s.depth → Reaches E (s.node a) (s.node b)
  ring a b l m i =
      let u = led g top in
      let over : u.0 < s.depth = within_le E s S g u.0 u.1.within in
      let there = S.path.found v p on in
      let ahead = then_edge (S.joined g a u.0 (omega arith) (omega (arith, S.last (g + 1))) u.1.within.above over) u.1.leads in
      then_joined ahead (subst (λ x. Joined E x (s.node b)) there.1 (S.joined h p b (omega arith) low m i))

  new_le : (f : ℕ) → bound t f ≤ s.depth
  new_le f = ⊎_elim (λ (l : h < f). omega (arith, e.bound_new f)) (λ k. omega (arith, e.bound_old f, bound_le E s S f)) (order h f)

  bounds : (f k : ℕ) → f < k → f < n → bound t f < bound t k
  bounds f k l i = ⊎_elim
      (λ (beyond : h < k). omega (arith, e.count, e.bound_old f, e.bound_new k, S.bounds f s.count, S.last s.count))
      (λ before. omega (arith, e.bound_old f, e.bound_old k, S.bounds f k))
      (order h k)

  edge_bounds : (f k : ℕ) → f ≤ k → edge_bound t f ≤ edge_bound t k
  edge_bounds f k l = ⊎_elim
      (λ (beyond : h < k). ⊎_elim (λ (far : h < f). omega (arith, e.edge_new f, e.edge_new k)) (λ near. omega (arith, e.edge_old f, e.edge_new k, edge_le E s S f)) (order h f))
      (λ before. omega (arith, e.edge_old f, e.edge_old k, S.edge_bounds f k))
      (order h k)

  joined : (f a b : ℕ) → f < n → a < bound t (f + 1) → bound t f ≤ b → b < s.depth → Joined E (s.node a) (s.node b)
  joined f a b i l m j = ⊎_elim
      (λ (before : f < h). S.joined f a b (omega arith) (omega (arith, e.bound_old (f + 1))) (omega (arith, e.bound_old f)) j)
      (λ here. inr (ring a b (omega (arith, new_le (f + 1))) (bound_at s f h b (omega (arith, e.count)) (omega (arith, e.count, e.bound_old f))) j))
      (order f h)

  within_before : (f a : ℕ) → f < h → Within s f a → Within t f a
  within_before f a l w = record { above = omega (arith, e.bound_old f, w.above); below = omega (arith, e.bound_old (f + 1), w.below) }

  within_here : (f a : ℕ) → h ≤ f → f ≤ g → Within s f a → Within t h a
  within_here f a l m w = record {
    above = ⊎_elim (λ (d : h < f). omega (arith, e.bound_old h, w.above, S.bounds h f)) (λ q. bound_at t f h a (omega arith) (omega (arith, e.bound_old f, w.above))) (order h f);
    below = omega (arith, e.bound_new (h + 1), within_le E s S f a w);
  }

  within_to : (f a : ℕ) → f < h → Within t f a → Within s f a
  within_to f a l w = record { above = omega (arith, e.bound_old f, w.above); below = omega (arith, e.bound_old (f + 1), w.below) }

  source_here : (f y : ℕ) → h ≤ f → f ≤ g → (a : ℕ) × IsSource E s f y a → (a : ℕ) × IsSource E t h y a
  source_here f y l m w = (w.0, record { within = within_here f w.0 l m w.1.within; leads = w.1.leads })

  sources_here : (k : ℕ) → edge_bound s h ≤ k → k < s.pending → (a : ℕ) × IsSource E t h (s.target k) a
  sources_here k l m = ⊎_elim
      (λ (first : k < edge_bound s (h + 1)). source_here h (s.target k) (omega arith) hg (S.sources h k (omega arith) l first))
      (λ second. ⊎_elim
      (λ (two : h < g). source_here g (s.target k) hg (omega arith) (S.sources g k (omega arith)
      (edge_at s (h + 1) g k (omega arith) second) (omega (arith, S.edge_last (g + 1)))))
      (λ one. absurd (omega (arith, S.edge_last (h + 1))))
      (order h g))
      (order k (edge_bound s (h + 1)))

  sources : (f k : ℕ) → f < n → edge_bound t f ≤ k → k < edge_bound t (f + 1) → (a : ℕ) × IsSource E t f (s.target k) a
  sources f k i l m = ⊎_elim
      (λ (before : f < h).
      let w = S.sources f k (omega arith) (omega (arith, e.edge_old f)) (omega (arith, e.edge_old (f + 1))) in
      (w.0, record { within = within_before f w.0 before w.1.within; leads = w.1.leads }))
      (λ after.
      let here : h ≡ f = omega (arith, e.count) in
      subst (λ f. (a : ℕ) × IsSource E t f (s.target k) a) here
      (sources_here k (subst (λ f. edge_bound s f ≤ k) (sym here) (omega (arith, e.edge_old f))) (omega (arith, e.edge_new (f + 1)))))
      (order f h)

  cycles : (f a : ℕ) → f < n → (component f).cyclic ≡ true → Within t f a → Reaches E (s.node a) (s.node a)
  cycles f a i q w = ⊎_elim
      (λ (before : f < h). S.cycles f a (omega arith) (sym (e.cyclic_old f before) ∙ q) (within_to f a before w))
      (λ after. ring a a (omega (arith, w.below, new_le (f + 1))) (bound_at s f h a (omega (arith, e.count)) (omega (arith, e.count, e.bound_old f, w.above))) (omega (arith, w.below, new_le (f + 1))))
      (order f h)

  pub merged : Sound E t
  merged = record {
    path = record { placed = S.path.placed; found = S.path.found };
    bounds = bounds;
    first = omega (arith, e.bound_old 0, S.first);
    last = λ f l. e.bound_new f (omega (arith, e.count));
    edge_bounds = edge_bounds;
    edge_last = λ f l. e.edge_new f (omega (arith, e.count));
    joined = joined;
    sources = sources;
    cycles = cycles;
    closed = S.closed;
    cyclic = S.cyclic;
    acyclic = S.acyclic;
  }

  known_before : (f y : ℕ) → f < h → Known s f y → Known t f y
  known_before f y l (inl w) = inl (w.0, record { above = omega (arith, e.edge_old f, w.1.above); below = omega (arith, e.edge_old (f + 1), w.1.below); is = w.1.is })
  known_before f y l (inr (inl d)) = inr (inl d)
  known_before f y l (inr (inr w)) = inr (inr (
    w.0,
    record {
      marked = w.1.marked;
      above = omega (arith, e.bound_old f, w.1.above);
      cyclic = λ m. e.cyclic_old f l ∙ w.1.cyclic (omega (arith, e.bound_old (f + 1)));
    },
  ))

  known_here : (f y : ℕ) → h ≤ f → f ≤ g → Known s f y → Known t h y
  known_here f y l m (inl w) = inl (
    w.0,
    record {
      above = omega (arith, e.edge_old h, S.edge_bounds h f, w.1.above);
      below = omega (arith, e.edge_new (h + 1), edge_le E s S (f + 1), w.1.below);
      is = w.1.is;
    },
  )
  known_here f y l m (inr (inl d)) = inr (inl d)
  known_here f y l m (inr (inr w)) = inr (inr (
    w.0,
    record {
      marked = w.1.marked;
      above = ⊎_elim (λ (d : h < f). omega (arith, e.bound_old h, w.1.above, S.bounds h f)) (λ q. bound_at t f h w.0 (omega arith) (omega (arith, e.bound_old f, w.1.above))) (order h f);
      cyclic = λ i. e.cyclic_new;
    },
  ))

  lifted : (f y : ℕ) → h ≤ f → f ≤ g → Known s f y ⊎ ((f + 1 ≡ s.count) × (y ≡ v)) → Known t h y ⊎ ((h + 1 ≡ n) × (y ≡ v))
  lifted f y l m (inl w) = inl (known_here f y l m w)
  lifted f y l m (inr w) = inr (sym e.count, w.1)

  known_at : KnownBut E s v → (a y : ℕ) → Within t h a → E (s.node a) y → Known t h y ⊎ ((h + 1 ≡ n) × (y ≡ v))
  known_at K a y w l = ⊎_elim
      (λ (first : a < bound s (h + 1)). lifted h y (omega arith) hg (K h a y (omega arith) (record { above = omega (arith, e.bound_old h, w.above); below = first }) l))
      (λ second. ⊎_elim
      (λ (two : h < g). lifted g y hg (omega arith) (K g a y (omega arith)
      (record { above = bound_at s (h + 1) g a (omega arith) second; below = omega (arith, S.last (g + 1), w.below, e.bound_new (h + 1)) }) l))
      (λ one. absurd (omega (arith, S.last (h + 1), w.below, e.bound_new (h + 1))))
      (order h g))
      (order a (bound s (h + 1)))

  before_at : (f y : ℕ) → f < h → Known s f y ⊎ ((f + 1 ≡ s.count) × (y ≡ v)) → Known t f y ⊎ ((f + 1 ≡ n) × (y ≡ v))
  before_at f y l (inl w) = inl (known_before f y l w)
  before_at f y l (inr w) = absurd (omega (arith, w.0))

  pub known_merged : KnownBut E s v → KnownBut E t v
  known_merged K f a y i w l = ⊎_elim
      (λ (before : f < h). before_at f y before (K f a y (omega arith) (within_to f a before w) l))
      (λ after.
      let here : h ≡ f = omega (arith, e.count) in
      subst (λ f. Known t f y ⊎ ((f + 1 ≡ n) × (y ≡ v))) here (known_at K a y (subst (λ f. Within t f a) (sym here) w) l))
      (order f h)

  pub led_merged : IsLed E t v
  led_merged f q = subst (λ f. (a : ℕ) × IsSource E t f v a) (omega (arith, e.count)) (source_here g v hg (omega arith) (led g top))

-- a target on the path that stands in the last component, which is marked as cyclic
pub known_ring : (E : ℕ → ℕ → Type 0) (s : Stand) (v p h : ℕ) → h + 1 ≡ s.count → s.mark v ≡ OnPath p → bound s h ≤ p → (s.component h).cyclic ≡ true
    → KnownBut E s v → AllKnown E s
known_ring E s v p h top on low ring K f a y i w l = ⊎_elim (λ k. k)
    (λ q. let here : f ≡ h = omega (arith, q.0) in
    inr (inr (p, record { marked = ap s.mark q.1 ∙ on; above = subst (λ f. bound s f ≤ p) (sym here) low; cyclic = λ m. ap (λ f. (s.component f).cyclic) here ∙ ring })))
    (K f a y i w l)

-- a target that is done
pub known_done : (E : ℕ → ℕ → Type 0) (s : Stand) (v : ℕ) → IsDone (s.mark v) → KnownBut E s v → AllKnown E s
known_done E s v d K f a y i w l = ⊎_elim (λ k. k) (λ q. inr (inl (d.0, ap s.mark q.1 ∙ d.1))) (K f a y i w l)
