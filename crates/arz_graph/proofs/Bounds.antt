-- Where components begin.
use Rattle.std.proofs.Common.{◌≡◌, ◌<◌, ◌≤◌, ◌+◌, ℕ, subst, ⊎_elim, arith}
use Rattle.arz_graph.specs.Search.{Stand, bound, edge_bound, Within, Sound}
use Rattle.arz_graph.proofs.Walks.{order}

module _ (E : ℕ → ℕ → Type 0) (s : Stand) (S : Sound E s) where
  pub bound_le : (f : ℕ) → bound s f ≤ s.depth
  bound_le f = ⊎_elim (λ (l : f < s.count). omega (arith, S.bounds f s.count l l, S.last s.count)) (λ h. omega (arith, S.last f h)) (order f s.count)

  pub edge_le : (f : ℕ) → edge_bound s f ≤ s.pending
  edge_le f = ⊎_elim (λ (l : f < s.count). omega (arith, S.edge_bounds f s.count, S.edge_last s.count)) (λ h. omega (arith, S.edge_last f h)) (order f s.count)

  pub within_le : (f a : ℕ) → Within s f a → a < s.depth
  within_le f a w = omega (arith, w.below, bound_le (f + 1))

pub bound_at : (s : Stand) (f k a : ℕ) → f ≡ k → bound s f ≤ a → bound s k ≤ a
bound_at s f k a e h = subst (λ k. bound s k ≤ a) e h

pub edge_at : (s : Stand) (f k a : ℕ) → f ≡ k → edge_bound s f ≤ a → edge_bound s k ≤ a
edge_at s f k a e h = subst (λ k. edge_bound s k ≤ a) e h
