-- Texts in which a byte doesn't stand.
use Rattle.std.proofs.Common.{◌≢◌, ℕ, suc, List, ◌∷◌, arith}
use Rattle.serde_json.proofs.Paths.{Lacks}

pub lacks-rest : (c x : ℕ) (xs : List ℕ) → Lacks c (x ∷ xs) → Lacks c xs
lacks-rest c x xs lacks i lt = lacks (suc i) (omega arith)

pub lacks-first : (c x : ℕ) (xs : List ℕ) → Lacks c (x ∷ xs) → x ≢ c
lacks-first c x xs lacks = lacks 0 (omega arith)
