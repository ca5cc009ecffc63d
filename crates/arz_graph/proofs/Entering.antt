-- A node is put at the end of the path.
use Rattle.std.proofs.Common.{◌≡◌, ◌≢◌, ◌<◌, ◌≤◌, ◌+◌, ◌-◌, ℕ, true, false, sym, ap, ◌∙◌, subst, inl, inr, ⊎_elim, arith}
use Rattle.std.proofs.lemmas.Bool.{cases_eq, false≢true}
use Rattle.arz_graph.specs.declared.search.Mark.TheVariants.{Unseen, OnPath, Done}
use Rattle.arz_graph.specs.Reaches.{Reaches}
use Rattle.arz_graph.specs.Search.{Stand, bound, edge_bound, Within, IsDone, Joined, IsSource, Sound, Settled, Known, AllKnown, KnownBut, IsLed}
use Rattle.arz_graph.proofs.Walks.{order, then_edge}
use Rattle.arz_graph.proofs.Bounds.{bound_le, edge_le, within_le}

pub record EntersAt (E : ℕ → ℕ → Type 0) (s t : Stand) (v : ℕ) : Type 0 where
  pub mark_new : t.mark v ≡ OnPath s.depth
  pub mark_old : (x : ℕ) → x ≢ v → t.mark x ≡ s.mark x
  pub depth : t.depth ≡ s.depth + 1
  pub node_new : t.node s.depth ≡ v
  pub node_old : (k : ℕ) → k < s.depth → t.node k ≡ s.node k
  pub pending : s.pending ≤ t.pending
  pub target_old : (k : ℕ) → k < s.pending → t.target k ≡ s.target k
  pub target_is : (k : ℕ) → s.pending ≤ k → k < t.pending → E v (t.target k)
  pub target_all : (y : ℕ) → E v y → (k : ℕ) × (s.pending ≤ k) × (k < t.pending) × (t.target k ≡ y)
  pub count : t.count ≡ s.count + 1
  pub bound_old : (f : ℕ) → f ≤ s.count → bound t f ≡ bound s f
  pub bound_new : (f : ℕ) → s.count < f → bound t f ≡ t.depth
  pub edge_old : (f : ℕ) → f ≤ s.count → edge_bound t f ≡ edge_bound s f
  pub edge_new : (f : ℕ) → s.count < f → edge_bound t f ≡ t.pending
  pub cyclic_old : (f : ℕ) → f < s.count → (t.component f).cyclic ≡ (s.component f).cyclic
  pub cyclic_new : (t.component s.count).cyclic ≡ false

module _ (E : ℕ → ℕ → Type 0) (s t : Stand) (v : ℕ) (S : Sound E s) (e : EntersAt E s t v) (unseen : s.mark v ≡ Unseen) (led : IsLed E s v) where
  open_at : (x k : ℕ) → s.mark x ≡ OnPath k → x ≢ v
  open_at x k h q = let w : OnPath k ≡ Unseen = sym h ∙ ap s.mark q ∙ unseen in cc

  done_at : (x : ℕ) → IsDone (s.mark x) → x ≢ v
  done_at x h q = let w : Done h.0 ≡ Unseen = sym h.1 ∙ ap s.mark q ∙ unseen in cc

  node_at : (k : ℕ) → k < s.depth → t.mark (s.node k) ≡ OnPath k
  node_at k l = let h = S.path.placed k l in e.mark_old (s.node k) (open_at (s.node k) k h) ∙ h

  placed : (k : ℕ) → k < t.depth → t.mark (t.node k) ≡ OnPath k
  placed k l = ⊎_elim (λ low. ap t.mark (e.node_old k low) ∙ node_at k low)
      (λ high. let last : k ≡ s.depth = omega (arith, e.depth) in subst (λ k. t.mark (t.node k) ≡ OnPath k) (sym last) (ap t.mark e.node_new ∙ e.mark_new)) (order k s.depth)

  found : (x k : ℕ) → t.mark x ≡ OnPath k → (k < t.depth) × (t.node k ≡ x)
  found x k h = ⊎_elim
      (λ (q : x ≡ v). let same : OnPath s.depth ≡ OnPath k = sym e.mark_new ∙ ap t.mark (sym q) ∙ h in
      let place : s.depth ≡ k = cc in (omega (arith, e.depth), ap t.node (sym place) ∙ e.node_new ∙ sym q))
      (λ n. let w = S.path.found x k (sym (e.mark_old x n) ∙ h) in (omega (arith, e.depth, w.0), e.node_old k w.0 ∙ w.1))
      (cases_eq x v)

  bounds : (f g : ℕ) → f < g → f < t.count → bound t f < bound t g
  bounds f g l i = ⊎_elim
      (λ (beyond : s.count < g). omega (arith, e.count, e.depth, e.bound_old f, e.bound_new g, bound_le E s S f))
      (λ low. omega (arith, e.bound_old f, e.bound_old g, S.bounds f g))
      (order s.count g)

  new_le : (f : ℕ) → bound t f ≤ t.depth
  new_le f = ⊎_elim (λ (l : s.count < f). omega (arith, e.bound_new f)) (λ h. omega (arith, e.depth, e.bound_old f, bound_le E s S f)) (order s.count f)

  last : (f : ℕ) → t.count ≤ f → bound t f ≡ t.depth
  last f l = e.bound_new f (omega (arith, e.count))

  edge_bounds : (f g : ℕ) → f ≤ g → edge_bound t f ≤ edge_bound t g
  edge_bounds f g l = ⊎_elim
      (λ (beyond : s.count < g). ⊎_elim
      (λ (far : s.count < f). omega (arith, e.edge_new f, e.edge_new g))
      (λ near. omega (arith, e.edge_old f, e.edge_new g, e.pending, edge_le E s S f)) (order s.count f))
      (λ low. omega (arith, e.edge_old f, e.edge_old g, S.edge_bounds f g))
      (order s.count g)

  edge_last : (f : ℕ) → t.count ≤ f → edge_bound t f ≡ t.pending
  edge_last f l = e.edge_new f (omega (arith, e.count))

  led_from : (f a : ℕ) → f + 1 ≡ s.count → a < s.depth → Reaches E (s.node a) v
  led_from f a q l =
      let u = led f q in
      then_edge (S.joined f a u.0 (omega arith) (omega (arith, S.last (f + 1))) u.1.within.above (omega (arith, u.1.within.below, S.last (f + 1)))) u.1.leads

  led_to : (a : ℕ) → a < s.depth → Reaches E (s.node a) v
  led_to a l = ⊎_elim
      (λ (none : s.count < 1). absurd (omega (arith, S.first, S.last 0)))
      (λ some. led_from (s.count - 1) a (omega arith) l) (order s.count 1)

  joined : (f a b : ℕ) → f < t.count → a < bound t (f + 1) → bound t f ≤ b → b < t.depth → Joined E (t.node a) (t.node b)
  joined f a b i l m n = ⊎_elim
      (λ (low : b < s.depth).
      let before : f < s.count = ⊎_elim (λ h. h) (λ h. absurd (omega (arith, e.count, e.bound_old f, S.last f h))) (order f s.count) in
      let under : a < s.depth = omega (arith, e.bound_old (f + 1), bound_le E s S (f + 1)) in
      subst (λ x. Joined E x (t.node b)) (sym (e.node_old a under)) (subst (Joined E (s.node a)) (sym (e.node_old b low))
      (S.joined f a b before (omega (arith, e.bound_old (f + 1))) (omega (arith, e.bound_old f)) low)))
      (λ high.
      let here : t.node b ≡ v = ap t.node (omega (arith, e.depth)) ∙ e.node_new in
      ⊎_elim
      (λ under. inr (subst (Reaches E (t.node a)) (sym here) (subst (λ x. Reaches E x v) (sym (e.node_old a under)) (led_to a under))))
      (λ over. inl (ap t.node (omega (arith, e.depth, new_le (f + 1)))))
      (order a s.depth))
      (order b s.depth)

  within_from : (f a : ℕ) → f < s.count → Within s f a → Within t f a
  within_from f a i w = record { above = omega (arith, e.bound_old f, w.above); below = omega (arith, e.bound_old (f + 1), w.below) }

  within_to : (f a : ℕ) → f < s.count → Within t f a → Within s f a
  within_to f a i w = record { above = omega (arith, e.bound_old f, w.above); below = omega (arith, e.bound_old (f + 1), w.below) }

  at_last : (f a : ℕ) → f < t.count → s.count ≤ f → Within t f a → a ≡ s.depth
  at_last f a i l w = omega (arith, w.above, w.below, e.count, e.depth, e.bound_old f, e.bound_new (f + 1), S.last f)

  sources : (f k : ℕ) → f < t.count → edge_bound t f ≤ k → k < edge_bound t (f + 1) → (a : ℕ) × IsSource E t f (t.target k) a
  sources f k i l m = ⊎_elim
      (λ (before : f < s.count).
      let low : k < s.pending = omega (arith, e.edge_old (f + 1), edge_le E s S (f + 1)) in
      let w = S.sources f k before (omega (arith, e.edge_old f)) (omega (arith, e.edge_old (f + 1))) in (
        w.0,
        record {
          within = within_from f w.0 before w.1.within;
          leads = subst (λ x. E x (t.target k)) (sym (e.node_old w.0 (within_le E s S f w.0 w.1.within))) (subst (E (s.node w.0)) (sym (e.target_old k low)) w.1.leads);
        },
      ))
      (λ after. (
        s.depth,
        record {
          within = record { above = omega (arith, e.count, e.bound_old f, S.last f); below = omega (arith, e.count, e.depth, e.bound_new (f + 1)) };
          leads = subst (λ x. E x (t.target k)) (sym e.node_new) (e.target_is k (omega (arith, e.count, e.edge_old f, S.edge_last f)) (omega (arith, e.count, e.edge_new (f + 1))));
        },
      ))
      (order f s.count)

  cycles : (f a : ℕ) → f < t.count → (t.component f).cyclic ≡ true → Within t f a → Reaches E (t.node a) (t.node a)
  cycles f a i q w = ⊎_elim
      (λ (before : f < s.count).
      let old = within_to f a before w in
      subst (λ x. Reaches E x x) (sym (e.node_old a (within_le E s S f a old))) (S.cycles f a before (sym (e.cyclic_old f before) ∙ q) old))
      (λ after. let here : f ≡ s.count = omega (arith, e.count) in absurd (false≢true (sym e.cyclic_new ∙ ap (λ f. (t.component f).cyclic) (sym here) ∙ q)))
      (order f s.count)

  not_new : (x : ℕ) → IsDone (t.mark x) → x ≢ v
  not_new x h q = let w : Done h.0 ≡ OnPath s.depth = sym h.1 ∙ ap t.mark q ∙ e.mark_new in cc

  done_from : (x : ℕ) → IsDone (s.mark x) → IsDone (t.mark x)
  done_from x h = (h.0, e.mark_old x (done_at x h) ∙ h.1)

  closed : (x y : ℕ) → IsDone (t.mark x) → E x y → IsDone (t.mark y)
  closed x y h l = done_from y (S.closed x y (h.0, sym (e.mark_old x (not_new x h)) ∙ h.1) l)

  pub entered : Sound E t
  entered = record {
    path = record { placed = placed; found = found };
    bounds = bounds;
    first = omega (arith, e.bound_old 0, S.first);
    last = last;
    edge_bounds = edge_bounds;
    edge_last = edge_last;
    joined = joined;
    sources = sources;
    cycles = cycles;
    closed = closed;
    cyclic = λ x h. S.cyclic x (sym (e.mark_old x (not_new x (true, h))) ∙ h);
    acyclic = λ x h. S.acyclic x (sym (e.mark_old x (not_new x (false, h))) ∙ h);
  }

  settled_from : (f y : ℕ) → f < s.count → Settled s f y → Settled t f y
  settled_from f y i h = ⊎_elim (λ d. inl (done_from y d))
      (λ w. inr (
        w.0,
        record {
          marked = e.mark_old y (open_at y w.0 w.1.marked) ∙ w.1.marked;
          above = omega (arith, e.bound_old f, w.1.above);
          cyclic = λ l. e.cyclic_old f i ∙ w.1.cyclic (omega (arith, e.bound_old (f + 1)));
        },
      )) h

  known_from : (f y : ℕ) → f < s.count → Known s f y → Known t f y
  known_from f y i h = ⊎_elim
      (λ w. inl (
        w.0,
        record {
          above = omega (arith, e.edge_old f, w.1.above);
          below = omega (arith, e.edge_old (f + 1), w.1.below);
          is = e.target_old w.0 (omega (arith, w.1.below, edge_le E s S (f + 1))) ∙ w.1.is;
        },
      ))
      (λ w. inr (settled_from f y i w)) h

  known_new : (f y : ℕ) → f < s.count → y ≡ v → Known t f y
  known_new f y i q = inr (inr (
    s.depth,
    record {
      marked = ap t.mark q ∙ e.mark_new;
      above = omega (arith, e.bound_old f, bound_le E s S f);
      cyclic = λ l. absurd (omega (arith, e.bound_old (f + 1), bound_le E s S (f + 1)));
    },
  ))

  known_own : (f y : ℕ) → f ≡ s.count → E v y → Known t f y
  known_own f y q l =
      let w = e.target_all y l in
      inl (w.0, record { above = omega (arith, e.edge_old f, S.edge_last f, w.1); below = omega (arith, e.edge_new (f + 1), w.2); is = w.3 })

  pub known_entered : KnownBut E s v → AllKnown E t
  known_entered K f a y i w l = ⊎_elim
      (λ (before : f < s.count).
      let old = within_to f a before w in
      ⊎_elim (λ h. known_from f y before h) (λ h. known_new f y before h.1)
      (K f a y before old (subst (λ x. E x y) (e.node_old a (within_le E s S f a old)) l)))
      (λ after. known_own f y (omega (arith, e.count)) (subst (λ x. E x y) (ap t.node (at_last f a i after w) ∙ e.node_new) l))
      (order f s.count)
