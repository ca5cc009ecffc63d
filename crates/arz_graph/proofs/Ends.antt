-- How a search begins and ends.
use Rattle.std.proofs.Common.{◌≡◌, ◌≢◌, ◌<◌, ◌≤◌, ◌↔◌, ◌⊎◌, inl, inr, ℕ, true, false, IsTrue, [], length, get_or, map, replicate, refl, sym, ap, ◌∙◌, subst, ⊎_elim, arith}
use Rattle.std.specs.List.{Contains}
use Rattle.std.proofs.Math.ListN.{get_or-map}
use Rattle.std.proofs.lemmas.Bool.{false≢true}
use Rattle.std.proofs.lemmas.List.{get_or-replicate, get_or_past, length-replicate}
use Rattle.std.proofs.lemmas.Option.{slice_get_past}
use Rattle.arz_graph.specs.declared.search.Mark.{Mark}
use Rattle.arz_graph.specs.declared.search.Mark.TheVariants.{Unseen, OnPath, Done}
use Rattle.arz_graph.specs.declared.search.Search.{Search}
use Rattle.arz_graph.specs.Reaches.{Graph, Edge, IsCyclic, Reaches, edge, onward, targets_in}
use Rattle.arz_graph.specs.Search.{seen, end, bound, edge_bound, IsDone, Sound, Holds, IsBegun, is_cyclic_mark}
use Rattle.arz_graph.proofs.Walks.{order}
use Rattle.arz_graph.proofs.Marked.{mark_at, unseen_within}

begun_mark : (n x : ℕ) → (mark_at (replicate n Unseen) x ≡ Unseen) ⊎ ((mark_at (replicate n Unseen) x ≡ Done false) × (n ≤ x))
begun_mark n x = ⊎_elim (λ l. inl (get_or-replicate n x Unseen (Done false) l))
    (λ h. inr (get_or_past (replicate n Unseen) x (Done false) (omega (arith, length-replicate n Unseen)), h)) (order x n)

-- a number that is no node leads nowhere
no_edge : (graph : Graph) (x y : ℕ) → length graph ≤ x → Edge graph x y → ⊥
no_edge graph x y l h =
    let none : Contains [] y = subst (λ o. Contains (targets_in o) y) (slice_get_past graph x l) h in
    absurd (omega (arith, none.1))

no_reach : (graph : Graph) (x y : ℕ) → length graph ≤ x → Reaches (Edge graph) x y → ⊥
no_reach graph x y l (edge h) = no_edge graph x y l h
no_reach graph x y l (onward {j = j} h r) = no_edge graph x j l h

module _ (graph : Graph) (s : Search) (b : IsBegun (length graph) s) where
  mark_is : (x : ℕ) → (seen s).mark x ≡ mark_at (replicate (length graph) Unseen) x
  mark_is x = ap (λ ms. mark_at ms x) b.marks

  sorted : (x : ℕ) → ((seen s).mark x ≡ Unseen) ⊎ (((seen s).mark x ≡ Done false) × (length graph ≤ x))
  sorted x = ⊎_elim (λ u. inl (mark_is x ∙ u)) (λ d. inr (mark_is x ∙ d.0, d.1)) (begun_mark (length graph) x)

  not_on : (x k : ℕ) → (seen s).mark x ≡ OnPath k → ⊥
  not_on x k q = ⊎_elim
      (λ u. let w : ◌≡◌ {A = Mark} Unseen (OnPath k) = sym u ∙ q in cc)
      (λ d. let w : ◌≡◌ {A = Mark} (Done false) (OnPath k) = sym d.0 ∙ q in cc)
      (sorted x)

  done_past : (x : ℕ) → IsDone ((seen s).mark x) → length graph ≤ x
  done_past x d = ⊎_elim (λ u. let w : ◌≡◌ {A = Mark} Unseen (Done d.0) = sym u ∙ d.1 in absurd cc) (λ d. d.1) (sorted x)

  none : length s.components.items ≡ 0
  none = ap length b.components

  bound_is : (f : ℕ) → bound (seen s) f ≡ length s.nodes.items
  bound_is f = ap (λ c. c.nodes) (get_or_past s.components.items f (end s.nodes.items s.edges.items) (omega (arith, none)))

  edge_is : (f : ℕ) → edge_bound (seen s) f ≡ length s.edges.items
  edge_is f = ap (λ c. c.edges) (get_or_past s.components.items f (end s.nodes.items s.edges.items) (omega (arith, none)))

  empty : length s.nodes.items ≡ 0
  empty = ap length b.nodes

  begun : Sound (Edge graph) (seen s)
  begun = record {
    path = record { placed = λ k l. absurd (omega (arith, empty)); found = λ x k q. absurd (not_on x k q) };
    bounds = λ f g l i. absurd (omega (arith, none));
    first = omega (arith, bound_is 0, empty);
    last = λ f l. bound_is f;
    edge_bounds = λ f g l. omega (arith, edge_is f, edge_is g);
    edge_last = λ f l. edge_is f;
    joined = λ f a b i l m n. absurd (omega (arith, none));
    sources = λ f k i l m. absurd (omega (arith, none));
    cycles = λ f a i q w. absurd (omega (arith, none));
    closed = λ x y d l. absurd (no_edge graph x y (done_past x d) l);
    cyclic = λ x q. ⊎_elim
        (λ u. let w : ◌≡◌ {A = Mark} Unseen (Done true) = sym u ∙ q in absurd cc)
        (λ d. let w : ◌≡◌ {A = Mark} (Done false) (Done true) = sym d.0 ∙ q in let z : false ≡ true = cc in absurd (false≢true z)) (sorted x);
    acyclic = λ x q r. no_reach graph x x (done_past x (false, q)) r;
  }

  pub begun_holds : Holds graph s
  begun_holds = record {
    nodes = ap length b.marks ∙ length-replicate (length graph) Unseen;
    sound = begun;
    known = λ f a y i w l. absurd (omega (arith, none));
  }

module _ (graph : Graph) (s : Search) (H : Holds graph s) (idle : s.components.items ≡ []) (all : (x : ℕ) → x < length graph → (seen s).mark x ≢ Unseen) where
  flag_at : (i : ℕ) (m : Mark) → (seen s).mark i ≡ m → IsTrue (is_cyclic_mark m) ↔ IsCyclic graph i
  flag_at i Unseen q = absurd (all i (omega (arith, unseen_within s.marks.items i q, H.nodes)) q)
  flag_at i (OnPath k) q = absurd (omega (arith, (H.sound.path.found i k q).0, H.sound.first, H.sound.last 0, ap length idle))
  flag_at i (Done true) q = (λ e. H.sound.cyclic i q, λ r. refl)
  flag_at i (Done false) q = (λ e. absurd (false≢true e), λ r. absurd (H.sound.acyclic i q r))

  pub flags_exact : (i : ℕ) → IsTrue (get_or (map is_cyclic_mark s.marks.items) i false) ↔ IsCyclic graph i
  flags_exact i = subst (λ b. IsTrue b ↔ IsCyclic graph i) (sym (get_or-map is_cyclic_mark s.marks.items i (Done false))) (flag_at i ((seen s).mark i) refl)
