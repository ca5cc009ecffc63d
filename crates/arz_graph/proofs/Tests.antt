-- Whether a node lies on a cycle is decided: by the paths whose inner nodes are below a number.
use Rattle.std.proofs.Common.{◌≡◌, ◌<◌, ◌≤◌, ◌↔◌, ◌⊎◌, inl, inr, ℕ, zero, suc, Bool, true, false, IsTrue, List, [], ◌∷◌, refl, sym, subst, ⊎_elim, arith}
use Rattle.std.specs.List.{Contains}
use Rattle.std.proofs.lemmas.Bool.{cases_eq, false≢true}
use Rattle.arz_graph.specs.Reaches.{Reaches, edge, onward, Leads}
use Rattle.arz_graph.proofs.Walks.{order, along}

abbrev Decided : Type 0 → Type 0
Decided P = P ⊎ (P → ⊥)

later : (x : ℕ) (xs : List ℕ) (y : ℕ) → Contains xs y → Contains (x ∷ xs) y
later x xs y w = (suc w.0, omega (arith, w.1), w.2)

sooner : (x : ℕ) (xs : List ℕ) (y : ℕ) → (x ≡ y → ⊥) → Contains (x ∷ xs) y → Contains xs y
sooner x xs y n (zero, l, e) = absurd (n e)
sooner x xs y n (suc k, l, e) = (k, omega (arith, l), e)

contains : (xs : List ℕ) (y : ℕ) → Decided (Contains xs y)
contains [] y = inr (λ w. omega (arith, w.1))
contains (x ∷ xs) y = ⊎_elim
    (λ (e : x ≡ y). inl (zero, omega arith, e))
    (λ n. ⊎_elim (λ w. inl (later x xs y w)) (λ out. inr (λ w. out (sooner x xs y n w))) (contains xs y))
    (cases_eq x y)

module _ (next : ℕ → List ℕ) where
  Path : ℕ → ℕ → ℕ → Type 0
  Path zero i j = Contains (next i) j
  Path (suc k) i j = Path k i j ⊎ (Path k i k × Path k k j)

  no_path : (k i j : ℕ) → (Path k i j → ⊥) → (Path k i k × Path k k j → ⊥) → Path (suc k) i j → ⊥
  unfolding Path
  no_path k i j n m (inl p) = n p
  no_path k i j n m (inr q) = m q

  decided : (k i j : ℕ) → Decided (Path k i j)
  unfolding Path
  decided zero i j = contains (next i) j
  decided (suc k) i j = ⊎_elim (λ p. inl (inl p))
      (λ n. ⊎_elim
      (λ a. ⊎_elim (λ b. inl (inr (a, b))) (λ m. inr (no_path k i j n (λ q. m q.1))) (decided k k j))
      (λ m. inr (no_path k i j n (λ q. m q.0))) (decided k i k))
      (decided k i j)

  path_reaches : (k i j : ℕ) → Path k i j → Reaches (Leads next) i j
  unfolding Path
  path_reaches zero i j h = edge h
  path_reaches (suc k) i j (inl p) = path_reaches k i j p
  path_reaches (suc k) i j (inr q) = along (path_reaches k i k q.0) (path_reaches k k j q.1)

  edge_path : (k i j : ℕ) → Contains (next i) j → Path k i j
  unfolding Path
  edge_path zero i j h = h
  edge_path (suc k) i j h = inl (edge_path k i j h)

  to_new : (k i : ℕ) → Path (suc k) i k → Path k i k
  unfolding Path
  to_new k i (inl p) = p
  to_new k i (inr q) = q.0

  from_new : (k j : ℕ) → Path (suc k) k j → Path k k j
  unfolding Path
  from_new k j (inl p) = p
  from_new k j (inr q) = q.1

  by_new : (k i j : ℕ) → Path k i k → Path k k j → Path (suc k) i j
  unfolding Path
  by_new k i j a b = inr (a, b)

  by_old : (k m : ℕ) → ((i j : ℕ) → Path k i m → Path k m j → Path k i j) → (i j : ℕ) → Path (suc k) i m → Path (suc k) m j → Path (suc k) i j
  unfolding Path
  by_old k m join i j (inl a) (inl b) = inl (join i j a b)
  by_old k m join i j (inl a) (inr b) = inr (join i k a b.0, b.1)
  by_old k m join i j (inr a) (inl b) = inr (a.0, join k j a.1 b)
  by_old k m join i j (inr a) (inr b) = inr (a.0, b.1)

  paths_join : (k m : ℕ) → m < k → (i j : ℕ) → Path k i m → Path k m j → Path k i j
  paths_join zero m l i j a b = absurd (omega (arith, l))
  paths_join (suc k) m l i j a b = ⊎_elim
      (λ (before : m < k). by_old k m (paths_join k m before) i j a b)
      (λ after.
      let here : m ≡ k = omega (arith, l, after) in
      by_new k i j (to_new k i (subst (λ m. Path (suc k) i m) here a)) (from_new k j (subst (λ m. Path (suc k) m j) here b)))
      (order m k)

  module _ (count : ℕ) (none : (i : ℕ) → count ≤ i → next i ≡ []) where
    within : (i j : ℕ) → Contains (next i) j → i < count
    within i j h = ⊎_elim (λ (l : i < count). l)
        (λ m. let w : Contains [] j = subst (λ xs. Contains xs j) (none i m) h in absurd (omega (arith, w.1))) (order i count)

    source_within : (i j : ℕ) → Reaches (Leads next) i j → i < count
    source_within i j (edge h) = within i j h
    source_within i j (onward {j = m} h r) = within i m h

    reaches_path : (i j : ℕ) → Reaches (Leads next) i j → Path count i j
    reaches_path i j (edge h) = edge_path count i j h
    reaches_path i j (onward {j = m} h r) = paths_join count m (source_within m j r) i j (edge_path count i m h) (reaches_path m j r)

    told : {P : Type 0} → Decided P → Bool
    told (inl p) = true
    told (inr n) = false

    told_exact : {P Q : Type 0} → (P → Q) → (Q → P) → (d : Decided P) → IsTrue (told d) ↔ Q
    unfolding told
    told_exact f g (inl p) = (λ e. f p, λ q. refl)
    told_exact f g (inr n) = (λ e. absurd (false≢true e), λ q. absurd (n (g q)))

    pub cycles_told : (is_cyclic : ℕ → Bool) × ((i : ℕ) → IsTrue (is_cyclic i) ↔ Reaches (Leads next) i i)
    cycles_told = (λ i. told (decided count i i), λ i. told_exact (path_reaches count i i) (reaches_path i i) (decided count i i))

-- two tests that tell the same agree
pub tests_agree : {P : Type 0} (a b : Bool) → IsTrue a ↔ P → IsTrue b ↔ P → a ≡ b
tests_agree true true f g = refl
tests_agree true false f g = sym (g.1 (f.0 refl))
tests_agree false true f g = f.1 (g.0 refl)
tests_agree false false f g = refl
