-- Reaching, along no edge or more.
use Rattle.std.proofs.Common.{◌<◌, ◌≤◌, ℕ, sym, subst, ◌⊎◌, inl, inr, ⊎_elim, arith}
use Rattle.std.proofs.lemmas.Bool.{cases_order}
use Rattle.arz_graph.specs.Reaches.{Reaches, edge, onward}
use Rattle.arz_graph.specs.Search.{Joined}

pub order : (i n : ℕ) → (i < n) ⊎ (n ≤ i)
order i n = ⊎_elim (λ e. inr (omega arith)) (λ h. ⊎_elim (λ l. inl l) (λ l. inr (omega arith)) h) (cases_order i n)

module _ {A : Type 0} {E : A → A → Type 0} where
  pub along : {x y z : A} → Reaches E x y → Reaches E y z → Reaches E x z
  along (edge e) r = onward e r
  along (onward e p) r = onward e (along p r)

module _ {E : ℕ → ℕ → Type 0} where
  pub then_edge : {x y z : ℕ} → Joined E x y → E y z → Reaches E x z
  then_edge {x} {y} {z} (inl e) h = edge (subst (λ w. E w z) (sym e) h)
  then_edge (inr p) h = along p (edge h)

  pub then_joined : {x y z : ℕ} → Reaches E x y → Joined E y z → Reaches E x z
  then_joined {x} {y} {z} p (inl e) = subst (Reaches E x) e p
  then_joined p (inr q) = along p q
